use mathlib.Core.Path.{◌∙◌}
use mathlib.Core.Logic.{inl, inr}
use Rattle.dispatch.proofs.Lent.{not-answers, not-writes, but-sizes}
use Rattle.dispatch.proofs.lent_for_each.Goals as goal

pub returns-then-answers-n : goal.returns-then-answers-n
returns-then-answers-n c = elim c.then-answers-n.either [ inl h ↦ not-answers _ _ _ _ h | inr h ↦ not-writes _ _ _ _ h.0 h.1 ]

pub returns : goal.returns
returns c = c.adds_up.ensures ∙ but-sizes _ _ _ _ c.if-answers-n.false c.if-writes-n.false
