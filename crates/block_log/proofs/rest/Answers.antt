-- `block_log::rest` meets its contract: a shift and a mask are the quotient and the remainder. Assumes nothing.
use lib.Bits.{and_mask}
use Rattle.block_log.specs.Entry.{entry_rest}
use Rattle.block_log.proofs.rest.Goals as goal

pub returns : goal.returns
unfolding entry_rest
returns c = and_mask _ 9
