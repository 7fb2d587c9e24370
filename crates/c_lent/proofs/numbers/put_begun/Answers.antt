-- `c_lent::numbers::put_begun`: a report where the beginning is done. Assumes nothing.
use mathlib.Core.Path.{◌∙◌}
use Rattle.c_lent.proofs.Shared.{numbers-same, numbers-report}
use Rattle.c_lent.proofs.numbers.put_begun.Goals as goal

pub returns-in-Ok : goal.returns-in-Ok
returns-in-Ok c taken = let a = c.args in
    rw c.in-Ok.is (c.report.ensures ∙ numbers-report taken a.head a.numbers.now c.requires)

pub returns-in-Err : goal.returns-in-Err
returns-in-Err c taken = rw c.in-Err.is (numbers-same taken c.args.head c.args.numbers.now c.requires)
