use mathlib.Core.Path.{◌≡◌}
use Prim.Native.Nat.{◌≤◌, ◌-◌}
use lib.ListN.{length}
use Rattle.points.specs.Serving.{in_turn}
use Rattle.c_lent.specs.Numbers.{shared_as}
use Rattle.c_lent.specs.Batch.{Lengths, AllReady}
use Rattle.c_lent.specs.Serving.{common_lent, listed_at, asking, asking_at, start_at, begin_turn_for}
use Rattle.c_lent.proofs.InTurn.{Reached}
use Rattle.c_lent.proofs.turn.begin_all.Given as goal

abbrev pub invariant-loop-i : goal.invariant-loop-i
invariant-loop-i l =
    (l.i ≤ length l.initial.heads)
    × (l.start ≡ start_at l.writes l.i)
    × (l.i-end ≡ length l.initial.heads)
    × Lengths (length l.initial.heads) l.heads l.tables l.texts l.answers
    × Reached begin_turn_for (in_turn begin_turn_for (common_lent l.image (shared_as l.initial.shared l.initial.taken)) (asking l.initial.heads l.initial.tables l.initial.texts l.writes l.bytes))
    (common_lent l.image (shared_as l.shared l.taken)) l.i (length l.initial.heads) (asking_at l.heads l.tables l.texts l.writes l.bytes) (listed_at l.heads l.tables l.texts l.answers)
    × AllReady (common_lent l.image (shared_as l.shared l.taken)) l.i (listed_at l.heads l.tables l.texts l.answers)

abbrev pub decreases-loop-i : goal.decreases-loop-i
decreases-loop-i l = length l.initial.heads - l.i
