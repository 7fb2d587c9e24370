use mathlib.Core.Path.{sym, ◌∙◌}
use Rattle.c_lent.specs.Numbers.{shared_lent, point_lent}
use Rattle.c_lent.proofs.Turns.{turn-off}
use Rattle.c_lent.proofs.turn.turn.Goals as goal

pub ready_step-requires : goal.ready_step-requires
ready_step-requires c = c.requires (sym c.goes_on.ensures ∙ c.if-goes_on.true)

pub returns-then-goes_on : goal.returns-then-goes_on
returns-then-goes_on c = c.ready_step.ensures c.args.answer.now (sym c.goes_on.ensures ∙ c.if-goes_on.true)

pub returns-else-goes_on : goal.returns-else-goes_on
returns-else-goes_on c = let a = c.args in
    turn-off a.image.now (shared_lent a.shared.now a.taken.now) (point_lent a.head.now a.table.now a.text.now) a.answer.now
    (sym c.goes_on.ensures ∙ c.if-goes_on.false)
