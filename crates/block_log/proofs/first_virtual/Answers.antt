-- `block_log::first_virtual` meets its contract: a mask is the remainder. Assumes nothing.
use mathlib.Core.Path.{◌∙◌}
use native.Mathlib.Omega.{arith}
use lib.Bits.{and_mask, mask_lt}
use Rattle.block_log.specs.Entry.{entry_v}
use Rattle.block_log.proofs.first_virtual.Goals as goal

pub returns : goal.returns
unfolding entry_v
returns c = (and_mask c.args.e 16 ∙ omega arith, mask_lt c.args.e 16)
