-- `points::begin::put_text` meets its contract: the invariant is that the first bytes are copied into an array of zeros. Assumes nothing.
use Prim.Native.Nat.{◌≤◌, ◌-◌}
use mathlib.Core.Path.{◌≡◌}
use lib.ListN.{length}
use lib.Seq.{paste}
use Rattle.points.specs.Record.{no_text}
use Rattle.points.proofs.begin.put_text.Given as goal

abbrev pub invariant-loop-i : goal.invariant-loop-i
invariant-loop-i l = (l.i ≤ length l.text) × (l.i-end ≡ length l.text) × (l.kept ≡ paste no_text 0 l.text l.i)

abbrev pub decreases-loop-i : goal.decreases-loop-i
decreases-loop-i l = length l.text - l.i
