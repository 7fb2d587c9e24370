-- The run of a legal entry lies inside the table; the table and the length are those of the entry applied.
use Rattle.block_log.specs.Replay.{apply, replay_on}
use Rattle.block_log.proofs.ahead.take_in.Goals as goal

pub returns-clause-alone : goal.returns-clause-alone
unfolding apply replay_on
returns-clause-alone c = rw (
  c.map_run.ensures,
  c.longer.ensures,
  c.first_virtual-v.ensures.0,
  c.first_block-b.ensures.0,
  c.count-n.ensures,
)

pub returns-clause-applied : goal.returns-clause-applied
unfolding apply
returns-clause-applied c = rw (
  c.map_run.ensures,
  c.longer.ensures,
  c.first_virtual-v.ensures.0,
  c.first_block-b.ensures.0,
  c.count-n.ensures,
)
