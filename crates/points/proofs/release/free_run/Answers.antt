-- `points::release::free_run`: as many blocks as the write spans. Assumes nothing.
use Rattle.points.specs.Plan.{without_run}
use Rattle.points.proofs.release.free_run.Goals as goal

pub returns : goal.returns
unfolding without_run
returns c = rw c.span.ensures at c.set_run.ensures
