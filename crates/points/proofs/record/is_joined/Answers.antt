-- `points::record::is_joined` meets its contract: a shift and a mask read one bit, and a number of 32 bits has no bit from 32 on. Assumes nothing.
use Prim.Native.Nat.{ℕ, ◌/◌, ◌^◌}
use native.Mathlib.Omega.{arith}
use mathlib.Core.Path.{sym, ap}
use lib.Dec.{eqb}
use lib.Bits.{and_mask}
use Rattle.points.proofs.Fits.{no-bit}
use Rattle.points.proofs.record.is_joined.Goals as goal

pub returns-then-number-gt31 : goal.returns-then-number-gt31
returns-then-number-gt31 c = let a = c.args in sym (no-bit 32 a.joined a.number (omega arith) (omega arith))

pub returns : goal.returns
returns c = let a = c.args in ap (λ (x : ℕ). eqb x 1) (and_mask (a.joined / 2 ^ a.number) 1)
