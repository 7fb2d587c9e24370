-- `points::extend::give_back`: committing goes on.
use Rattle.points.specs.Stepping.{give_back}
use Rattle.points.proofs.extend.give_back.Goals as goal

pub returns : goal.returns
unfolding give_back
returns c = rw (c.resting.ensures, c.to_commit-later.ensures, c.retried.ensures)
