-- A field by shift and mask.
use lib.Bits.{and_mask}
use Rattle.block_log.specs.Entry.{entry_point}
use Rattle.block_log.proofs.pack.point.Goals as goal

pub returns : goal.returns
unfolding entry_point
returns c = and_mask _ 5
