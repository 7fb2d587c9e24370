-- `points::commit::give_up`: the point is idle.
use Rattle.block_log.proofs.Replies.{refusal-again}
use Rattle.points.specs.Stepping.{give_up}
use Rattle.points.proofs.commit.give_up.Goals as goal

pub returns : goal.returns
unfolding give_up
returns c = rw (c.resting.ensures, c.no_write.ensures, refusal-again c.args.refusal)
