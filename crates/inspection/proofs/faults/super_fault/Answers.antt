-- The mark, or the first word behind word 1 that is not 0.
use mathlib.Core.Path.{sym, ap, ◌∙◌}
use mathlib.Core.List.{List}
use Prim.Native.Nat.{ℕ, ◌+◌}
use lib.ListN.{drop}
use Rattle.words.specs.Edition.{one}
use Rattle.words.specs.Memory.{memory}
use Rattle.inspection.specs.Faults.{zeros_ahead}
use Rattle.inspection.proofs.Named.{super-marked, super-word, word_of}
use Rattle.inspection.proofs.faults.super_fault.Goals as goal

pub returns-then-word-ne331942218545 : goal.returns-then-word-ne331942218545
returns-then-word-ne331942218545 c = let m = memory one c.args.image.now in
    c.fault_at.ensures ∙ sym (super-marked one m (λ z. c.if-word-ne331942218545.true (word_of m _ _ _ _ c.block-part.ensures c.word.ensures ∙ z)))

pub returns : goal.returns
returns c = let m = memory one c.args.image.now in
    let i = c.first_nonzero-word in
    let part = c.block-part.ensures in
    c.fault_at-2.ensures ∙ sym (super-word one m (sym (word_of m _ _ _ _ part c.word.ensures) ∙ c.if-word-ne331942218545.false) i.result
    (i.ensures ∙ ap (λ (xs : List ℕ). 2 + zeros_ahead (drop 2 xs)) part))
