-- The first byte from here on that is not 0 is the first of all.
use mathlib.Core.Path.{◌≡◌}
use Prim.Native.Nat.{◌-◌, ◌≤◌}
use Rattle.inspection.specs.Faults.{first_byte}
use Rattle.inspection.proofs.faults.first_byte.Given as goal

abbrev pub invariant-loop-k : goal.invariant-loop-k
invariant-loop-k l = (l.k ≤ 512) × (first_byte l.part l.from (512 - l.from) ≡ first_byte l.part l.k (512 - l.k))
