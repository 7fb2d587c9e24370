-- The first clash, and the last entry that covers its virtual block.
use mathlib.Core.Path.{sym, ap, ◌∙◌}
use mathlib.Core.Bool.{Bool, not}
use Rattle.words.specs.BlockMap.{taken}
use Rattle.words.specs.Edition.{one}
use Rattle.words.specs.Memory.{memory}
use Rattle.inspection.specs.Faults.{fault_at, rule_of}
use Rattle.inspection.proofs.Named.{shared-named}
use Rattle.inspection.proofs.faults.shared_fault.Goals as goal

pub returns-then-is_taken : goal.returns-then-is_taken
returns-then-is_taken c = let v = c.first_shared-v in
    let j = c.last_covering-j in
    let t = c.is_taken.ensures ∙ ap (taken c.args.read.logs) c.from.ensures in
    c.fault_at.ensures
    ∙ ap (λ (x : Bool). fault_at (memory one c.args.image.now) 8 (rule_of (not x)) c.block_of-b.result c.slot_of-i.result v.result) (sym c.if-is_taken.true)
    ∙ shared-named (memory one c.args.image.now) c.args.read.chain.now c.args.read.logs c.args.read.entries.now c.args.read.table.now
    v.result j.result _ _ _ v.ensures.0 j.ensures c.block_of-b.ensures c.slot_of-i.ensures t

pub returns : goal.returns
returns c = let v = c.first_shared-v in
    let j = c.last_covering-j in
    let t = c.is_taken.ensures ∙ ap (taken c.args.read.logs) c.from.ensures in
    c.fault_at-2.ensures
    ∙ ap (λ (x : Bool). fault_at (memory one c.args.image.now) 8 (rule_of (not x)) c.block_of-b.result c.slot_of-i.result v.result) (sym c.if-is_taken.false)
    ∙ shared-named (memory one c.args.image.now) c.args.read.chain.now c.args.read.logs c.args.read.entries.now c.args.read.table.now
    v.result j.result _ _ _ v.ensures.0 j.ensures c.block_of-b.ensures c.slot_of-i.ensures t
