-- The link behind what was read leads to one of the blocks read, or it does not.
use mathlib.Core.Path.{sym, ap, ◌∙◌}
use Rattle.words.specs.Edition.{one}
use Rattle.words.specs.Memory.{memory}
use Rattle.inspection.specs.Told.{Fault}
use Rattle.inspection.proofs.Named.{endless-round, endless-long}
use Rattle.inspection.proofs.faults.endless_fault.Goals as goal

pub returns-then-is_taken : goal.returns-then-is_taken
returns-then-is_taken c = let m = memory one c.args.image.now in
    let cs = c.args.chain.now in
    let i = c.link_word-i.ensures in
    let f = c.fault_at-found.ensures in
    f ∙ sym (endless-round m cs _ _ c.last_of-b.ensures i _ (ap (λ (k : Fault). k.value) f) c.args.logs.now c.requires
    (sym c.is_taken.ensures ∙ c.if-is_taken.true))

pub returns : goal.returns
returns c = let m = memory one c.args.image.now in
    let cs = c.args.chain.now in
    let i = c.link_word-i.ensures in
    let f = c.fault_at-found.ensures in
    c.fault_at.ensures ∙ sym (endless-long m cs _ _ c.last_of-b.ensures i _ (ap (λ (k : Fault). k.value) f) c.args.logs.now c.requires
    (sym c.is_taken.ensures ∙ c.if-is_taken.false))
