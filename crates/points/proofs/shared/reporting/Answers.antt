-- `points::shared::reporting`: the report is made in a copy. Assumes nothing.
use Rattle.points.proofs.shared.reporting.Goals as goal

pub returns : goal.returns
returns c = rw c.report.ensures
