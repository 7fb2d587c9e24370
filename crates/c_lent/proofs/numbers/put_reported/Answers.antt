-- `c_lent::numbers::put_reported`: by what is reported. Assumes nothing.
use Prim.Native.Nat.{◌+◌}
use native.Mathlib.Omega.{arith}
use mathlib.Core.Path.{◌∙◌}
use lib.ListN.{get_or, length-set}
use Rattle.c_lent.proofs.Shared.{numbers-same, numbers-report, numbers-longer}
use Rattle.c_lent.proofs.numbers.put_reported.Goals as goal

pub overflow_add-numbers : goal.overflow_add-numbers
overflow_add-numbers c = let l = rw c.in-Linked.is at c.requires.1 in
    record { fits = omega (arith, l) }

pub returns-in-NoReport : goal.returns-in-NoReport
returns-in-NoReport c taken = rw c.in-NoReport.is (numbers-same taken c.args.head c.args.numbers.now c.requires.0)

pub returns-in-Standing : goal.returns-in-Standing
returns-in-Standing c taken = rw c.in-Standing.is
    (c.report.ensures ∙ numbers-report taken c.args.head c.args.numbers.now c.requires.0)

pub shape_of-numbers-in-Linked : goal.shape_of-numbers-in-Linked
shape_of-numbers-in-Linked c = let xs = c.args.numbers.now in
    c.report-in-Linked.auto.numbers ∙ length-set xs 2 (get_or xs 2 0 + 1)

pub returns-in-Linked : goal.returns-in-Linked
returns-in-Linked c taken = rw c.in-Linked.is
    (c.report-in-Linked.ensures ∙ numbers-longer taken c.args.head c.args.numbers.now c.requires.0)
