-- `points::plan::refused`: a plan that keeps everything.
use Rattle.block_log.proofs.Replies.{refusal-again}
use Rattle.points.proofs.plan.refused.Goals as goal

pub returns : goal.returns
returns c = rw (refusal-again c.args.refusal) c.resting.ensures
