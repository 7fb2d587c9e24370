-- `points::extend::link`: the log place enters the new block, and nothing is left to fill.
use Rattle.points.specs.Stepping.{link}
use Rattle.points.proofs.extend.link.Goals as goal

pub returns : goal.returns
unfolding link
returns c = rw (c.storing.ensures, c.to_commit.ensures, c.entering.ensures)
