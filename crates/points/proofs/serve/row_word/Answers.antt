-- `points::serve::row_word`: every byte is of the text, or some are copied.
use mathlib.Core.Path.{refl, sym, ◌∙◌}
use native.Mathlib.Omega.{arith}
use Rattle.words.specs.Edition.{one}
use Rattle.words.specs.Memory.{memory}
use Rattle.points.proofs.Rows.{row-text, mixed-is, mixed-new}
use Rattle.points.proofs.serve.row_word.Goals as goal

pub returns-then-at-end : goal.returns-then-at-end
returns-then-at-end c h table p = let a = c.args in
    c.text_word.ensures ∙ sym (row-text (memory one a.image.now) a.row h table a.text.now a.k p (omega arith) (omega arith))

pub returns : goal.returns
returns c h table p = let a = c.args in
    c.mixed_word.ensures ∙ mixed-is _ a.row a.text.now a.k _ refl
    ∙ mixed-new (memory one a.image.now) a.row h table a.text.now a.k c.mapped_word-copied.result c.word.result
    c.word.ensures c.mapped_word-copied.ensures p
