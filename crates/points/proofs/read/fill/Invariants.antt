-- `points::read::fill`: the bytes put in and those still to come are always all of them, a block's share more with each turn.
use Prim.Native.Nat.{ℕ, ◌-◌}
use mathlib.Core.List.{List}
use Rattle.words.specs.Edition.{one}
use Rattle.words.specs.Memory.{memory}
use Rattle.block_log.specs.Replay.{file_byte}
use Rattle.points.proofs.Copied.{Copied}
use Rattle.points.proofs.read.fill.Given as goal

abbrev pub byte_from : List ℕ → List ℕ → ℕ → ℕ
byte_from image table = file_byte one (memory one image) (record { table = table; size = 0 })

abbrev pub invariant-loop-done : goal.invariant-loop-done
invariant-loop-done l = Copied (byte_from l.image l.table) l.initial.buffer 0 l.offset l.n l.buffer l.done

abbrev pub decreases-loop-done : goal.decreases-loop-done
decreases-loop-done l = l.n - l.done
