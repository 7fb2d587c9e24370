-- `c_lent::numbers::unknown`: 10 before 11. Assumes nothing.
use mathlib.Core.Path.{refl, sym, ◌∙◌}
use Rattle.c_lent.specs.Numbers.{reports_from}
use Rattle.c_lent.proofs.Calls.{unknown-10, unknown-11}
use Rattle.c_lent.proofs.numbers.unknown.Goals as goal

pub returns-then-bad_numbers : goal.returns-then-bad_numbers
returns-then-bad_numbers c taken = let a = c.args in
    unknown-10 a.image.now a.shared.now taken
    (sym (rw c.lead.ensures at (c.bad_numbers.ensures taken) (reports_from a.shared.now) refl) ∙ c.if-bad_numbers.true)

pub returns : goal.returns
returns c taken = let a = c.args in
    unknown-11 a.image.now a.shared.now taken
    (sym (rw c.lead.ensures at (c.bad_numbers.ensures taken) (reports_from a.shared.now) refl) ∙ c.if-bad_numbers.false)
