-- `points::commit::extend`: the block that the search found is taken, and zeroing begins at word 0.
use Rattle.points.specs.Stepping.{extend}
use Rattle.points.proofs.commit.extend.Goals as goal

pub returns : goal.returns
unfolding extend
returns c = rw (c.resting.ensures, c.turned-zeroing.ensures)
