-- The link behind what was read is 0, or it is not.
use mathlib.Core.Path.{sym, ap, ◌∙◌}
use Rattle.words.specs.Edition.{one}
use Rattle.words.specs.Memory.{memory}
use Rattle.inspection.specs.Told.{Fault}
use Rattle.inspection.proofs.Named.{index-zero, index-out}
use Rattle.inspection.proofs.faults.index_fault.Goals as goal

pub returns-then-found-eq0 : goal.returns-then-found-eq0
returns-then-found-eq0 c = let m = memory one c.args.image.now in
    let cs = c.args.chain.now in
    let i = c.link_word-i.ensures in
    let f = c.fault_at-found.ensures in
    f ∙ sym (index-zero m cs _ _ c.last_of-b.ensures i _ (ap (λ (k : Fault). k.value) f) c.if-found-eq0.true)

pub returns : goal.returns
returns c = let m = memory one c.args.image.now in
    let cs = c.args.chain.now in
    let i = c.link_word-i.ensures in
    let f = c.fault_at-found.ensures in
    c.fault_at.ensures ∙ sym (index-out m cs _ _ c.last_of-b.ensures i _ (ap (λ (k : Fault). k.value) f) c.if-found-eq0.false)
