-- `points::serve::next_word`: every byte is of the text, or some are copied.
use Prim.Native.Nat.{ℕ, ◌*◌, ◌/◌, ◌%◌}
use mathlib.Core.Path.{◌≡◌, refl, sym, ap, ◌∙◌}
use native.Mathlib.Omega.{arith}
use Rattle.words.specs.Edition.{one}
use Rattle.points.specs.Batch.{copied_word, mixed_word}
use Rattle.points.proofs.Rows.{mixed-whole, mixed-is}
use Rattle.points.proofs.serve.next_word.Goals as goal

pub returns-then-at-end : goal.returns-then-at-end
returns-then-at-end c = let a = c.args in
    c.text_word.ensures ∙ sym (mixed-whole _ a.row a.text.now a.k (omega arith) (omega arith))

pub copied_word-copied-requires : goal.copied_word-copied-requires
copied_word-copied-requires c = let e = c.word.ensures in (c.requires.2, omega arith)

pub mixed_word-requires : goal.mixed_word-requires
mixed_word-requires c = let r = c.requires.0 in (omega (arith, r.0), omega (arith, r.1))

pub returns : goal.returns
returns c = let a = c.args in
    let i : 8 * a.k / 8 % one.block_words ≡ a.k % one.block_words = omega arith in
    c.mixed_word.ensures ∙ mixed-is _ a.row a.text.now a.k _ refl
    ∙ ap (λ (x : ℕ). mixed_word x a.row a.text.now a.k)
    (c.copied_word-copied.ensures ∙ ap (λ (j : ℕ). copied_word a.image.now a.row.from j) (c.word.ensures ∙ i))
