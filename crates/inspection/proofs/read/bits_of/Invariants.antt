-- The word holds the bits of the numbers from i on.
use mathlib.Core.Path.{◌≡◌}
use Prim.Native.Nat.{◌+◌, ◌-◌}
use Rattle.words.specs.BlockMap.{taken, map_word}
use Rattle.inspection.proofs.read.bits_of.Given as goal

abbrev pub invariant-loop-i : goal.invariant-loop-i
invariant-loop-i l = l.w ≡ map_word (taken l.map) (l.v + l.i) (l.n - l.i)
