-- `points::plan::to_commit`: the position is the run's words.
use Rattle.points.proofs.plan.to_commit.Goals as goal

pub returns : goal.returns
returns c = rw (c.turned.ensures, c.run_words.ensures)
