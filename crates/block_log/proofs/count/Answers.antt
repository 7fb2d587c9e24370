-- `block_log::count` meets its contract: a shift and a mask are the quotient and the remainder. Assumes nothing.
use lib.Bits.{and_mask}
use Rattle.block_log.specs.Entry.{entry_n}
use Rattle.block_log.proofs.count.Goals as goal

pub returns : goal.returns
unfolding entry_n
returns c = and_mask _ 8
