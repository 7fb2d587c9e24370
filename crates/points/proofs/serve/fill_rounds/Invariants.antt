-- `points::serve::fill_rounds`: rounds before r are over; what is tested of the rows holds in all of them.
use Prim.Native.Nat.{◌-◌, ◌≤◌}
use mathlib.Core.Path.{◌≡◌}
use lib.ListN.{length}
use Rattle.points.specs.Batch.{rounds_stored}
use Rattle.points.proofs.serve.fill_rounds.Given as goal

abbrev pub invariant-loop-r : goal.invariant-loop-r
invariant-loop-r l =
    (l.r ≤ l.m)
    × (length l.image ≡ length l.initial.image)
    × (l.image ≡ rounds_stored l.r (length l.texts) l.rows l.texts l.initial.image)

abbrev pub decreases-loop-r : goal.decreases-loop-r
decreases-loop-r l = l.m - l.r
