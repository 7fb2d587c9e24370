-- `points::read::copy_words` meets its contract: the bytes put in and those still to come are always all of them, eight more with each word. Assumes nothing.
use Prim.Native.Nat.{◌*◌, ◌-◌}
use mathlib.Core.Path.{◌≡◌}
use lib.ListN.{length}
use Rattle.words.specs.Memory.{byte_in}
use Rattle.points.proofs.Copied.{Copied}
use Rattle.points.proofs.read.copy_words.Given as goal

abbrev pub invariant-loop-k : goal.invariant-loop-k
invariant-loop-k l = (l.k-end ≡ length l.part) × Copied (byte_in l.part) l.initial.buffer 0 0 (8 * length l.part) l.buffer (8 * l.k)

abbrev pub decreases-loop-k : goal.decreases-loop-k
decreases-loop-k l = length l.part - l.k
