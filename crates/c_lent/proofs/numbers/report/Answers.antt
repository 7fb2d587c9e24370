-- `c_lent::numbers::report`: the reports are a part of the numbers. Assumes nothing.
use mathlib.Core.Path.{◌∙◌}
use Rattle.c_lent.proofs.Shared.{rest-whole, rest_back}
use Rattle.c_lent.proofs.numbers.report.Goals as goal

pub returns : goal.returns
returns c = let a = c.args in
    rest_back a.numbers.now c.report.new.reports ∙ rw (c.report.ensures, rest-whole a.numbers.now)
