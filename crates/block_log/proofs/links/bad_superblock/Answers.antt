-- The mark, and the words after word 1.
use mathlib.Core.Path.{sym, ap, ◌∙◌}
use mathlib.Core.List.{List}
use mathlib.Core.Bool.{not}
use Prim.Native.Nat.{ℕ}
use lib.ListN.{drop, get_or}
use Rattle.words.specs.Edition.{one}
use Rattle.words.specs.Logic.{all_of, is_zero}
use Rattle.words.specs.Memory.{memory}
use Rattle.block_log.proofs.Chain.{super-mark, super-zeros}
use Rattle.block_log.proofs.links.bad_superblock.Goals as goal

pub returns-then-word-ne331942218545 : goal.returns-then-word-ne331942218545
returns-then-word-ne331942218545 c = let a = c.args in
    let ep = c.block-part.ensures in
    let w = c.word in
    sym (super-mark one (memory one a.image.now) (λ e. c.if-word-ne331942218545.true (w.ensures ∙ ap (λ (p : List ℕ). get_or p 0 0) ep ∙ e)))

pub returns : goal.returns
returns c = let a = c.args in
    let ep = c.block-part.ensures in
    let w = c.word in
    ap not (c.zeros_from.ensures ∙ ap (λ (p : List ℕ). all_of is_zero (drop 2 p)) ep)
    ∙ sym (super-zeros one (memory one a.image.now) (sym (w.ensures ∙ ap (λ (p : List ℕ). get_or p 0 0) ep) ∙ c.if-word-ne331942218545.false))
