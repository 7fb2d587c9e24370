-- The three tests of 1, one after the other.
use mathlib.Core.Path.{sym}
use native.Mathlib.Omega.{arith}
use Rattle.words.proofs.Memory.{size-odd, size-rest, size_small}
use Rattle.words.specs.Edition.{one}
use Rattle.block_log.proofs.open.wrong_size.Goals as goal

pub returns-then-blocks-image : goal.returns-then-blocks-image
returns-then-blocks-image c = sym (size-odd one c.args.image.now (λ e. c.if-blocks-image.true (omega arith)))

pub returns-then-blocks-lt4 : goal.returns-then-blocks-lt4
returns-then-blocks-lt4 c = sym (size_small one c.args.image.now (omega arith) (omega arith))

pub returns : goal.returns
returns c = rw c.whole_blocks-blocks.ensures (sym (size-rest one c.args.image.now (omega arith) (omega arith)))
