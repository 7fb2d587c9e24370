-- `c_lent::batch::go_on`: of the point only the position changes, and what it was answered.
use mathlib.Core.Path.{sym, ◌∙◌}
use native.Mathlib.Omega.{arith}
use Rattle.c_lent.specs.Serving.{listed_lent, point_as}
use Rattle.c_lent.proofs.ByRows.{words-on, words-none}
use Rattle.c_lent.proofs.batch.go_on.Goals as goal

pub overflow_add-head : goal.overflow_add-head
overflow_add-head c = let few = c.requires (sym c.goes_on.ensures ∙ c.if-goes_on.true) in
    omega (arith, few)

pub returns-then-goes_on : goal.returns-then-goes_on
returns-then-goes_on c table text = let a = c.args in
    sym (words-on a.m (point_as a.head.now table text) a.answer.now (sym c.goes_on.ensures ∙ c.if-goes_on.true))

pub returns-else-goes_on : goal.returns-else-goes_on
returns-else-goes_on c table text = let a = c.args in
    sym (words-none a.m (listed_lent (point_as a.head.now table text) a.answer.now) (sym c.goes_on.ensures ∙ c.if-goes_on.false))
