-- `block_log::used` meets its contract: a shift and a mask are the quotient and the remainder. Assumes nothing.
use lib.Bits.{and_mask}
use Rattle.block_log.specs.Entry.{entry_u}
use Rattle.block_log.proofs.used.Goals as goal

pub returns : goal.returns
unfolding entry_u
returns c = and_mask _ 10
