-- `points::shared::reported`: by what is reported. Assumes nothing.
use Rattle.points.proofs.shared.reported.Goals as goal

pub lengthening-requires : goal.lengthening-requires
lengthening-requires c = rw c.reporting-in-Linked.ensures (rw c.in-Linked.is at c.requires)

pub returns-in-Standing : goal.returns-in-Standing
returns-in-Standing c = rw c.in-Standing.is c.reporting.ensures

pub returns-in-Linked : goal.returns-in-Linked
returns-in-Linked c = rw (c.in-Linked.is, c.lengthening.ensures, c.reporting-in-Linked.ensures)
