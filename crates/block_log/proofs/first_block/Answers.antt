-- `block_log::first_block` meets its contract: a shift and a mask are the quotient and the remainder. Assumes nothing.
use Prim.Native.Nat.{◌/◌, ◌^◌}
use lib.Bits.{and_mask, mask_lt}
use Rattle.block_log.specs.Entry.{entry_b}
use Rattle.block_log.proofs.first_block.Goals as goal

pub returns : goal.returns
unfolding entry_b
returns c = (and_mask (c.args.e / 2 ^ 16) 16, mask_lt (c.args.e / 2 ^ 16) 16)
