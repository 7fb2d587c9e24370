-- Number by number, and the reports copied. Assumes nothing.
use native.Mathlib.Omega.{arith}
use Rattle.c_lent.proofs.Shared.{all_32}
use Rattle.c_lent.proofs.numbers.SharedFromRefSharedRecord.from.Goals as goal

pub returns : goal.returns
returns c = rw c.copy_from_slice.ensures.after (rw (all_32 c.args.lent.now.numbers (omega arith)))
