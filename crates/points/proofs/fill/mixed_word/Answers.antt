-- `points::fill::mixed_word`: one law for each exit: no byte is of the text, some are.
use mathlib.Core.Path.{sym}
use mathlib.Core.Logic.{inl, inr}
use native.Mathlib.Omega.{arith}
use Rattle.points.proofs.NewWord.{mixed-copied}
use Rattle.points.proofs.fill.mixed_word.Goals as goal

pub returns-then-at-lead : goal.returns-then-at-lead
returns-then-at-lead c = let a = c.args in
    sym (mixed-copied a.copied a.text.now a.lead a.end a.at (omega arith) (inl c.if-at-lead.true))

pub returns-then-end-at : goal.returns-then-end-at
returns-then-end-at c = let a = c.args in
    sym (mixed-copied a.copied a.text.now a.lead a.end a.at (omega arith) (inr c.if-end-at.true))
