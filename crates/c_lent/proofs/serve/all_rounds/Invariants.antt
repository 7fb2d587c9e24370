use mathlib.Core.Path.{◌≡◌}
use lib.ListN.{length}
use Rattle.points.specs.Serving.{rounds}
use Rattle.c_lent.specs.Numbers.{shared_as}
use Rattle.c_lent.specs.Batch.{Lengths, AllReady}
use Rattle.c_lent.specs.Serving.{common_lent, listed, listed_at, step_turn_for}
use Rattle.c_lent.proofs.serve.all_rounds.Given as goal

abbrev pub invariant-loop-left : goal.invariant-loop-left
invariant-loop-left l =
    (length l.image ≡ length l.initial.image)
    × Lengths (length l.initial.heads) l.heads l.tables l.texts l.answers
    × (rounds l.most step_turn_for (common_lent l.initial.image (shared_as l.initial.shared l.initial.taken)) (listed l.initial.heads l.initial.tables l.initial.texts l.initial.answers)
    ≡ rounds l.left step_turn_for (common_lent l.image (shared_as l.shared l.taken)) (listed l.heads l.tables l.texts l.answers))
    × AllReady (common_lent l.image (shared_as l.shared l.taken)) (length l.initial.heads) (listed_at l.heads l.tables l.texts l.answers)

abbrev pub decreases-loop-left : goal.decreases-loop-left
decreases-loop-left l = l.left
