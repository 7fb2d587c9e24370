-- `points::read::copy_bytes` meets its contract: the bytes put in and those still to come are always all of them. Assumes nothing.
use Prim.Native.Nat.{◌-◌}
use Rattle.words.specs.Memory.{byte_in}
use Rattle.points.proofs.Copied.{Copied}
use Rattle.points.proofs.read.copy_bytes.Given as goal

abbrev pub invariant-loop-k : goal.invariant-loop-k
invariant-loop-k l = Copied (byte_in l.part) l.initial.buffer l.at l.from l.n l.buffer l.k

abbrev pub decreases-loop-k : goal.decreases-loop-k
decreases-loop-k l = l.n - l.k
