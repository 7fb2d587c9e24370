-- `points::shared::begun`: by the reply. Assumes nothing.
use Rattle.points.proofs.shared.begun.Goals as goal

pub returns-in-Ok : goal.returns-in-Ok
returns-in-Ok c = rw c.in-Ok.is c.reporting.ensures
