use mathlib.Core.List.{List}
use Rattle.points.specs.Serving.{Listed}
use Rattle.dispatch.specs.Turns.{common, Shows}
use Rattle.dispatch.proofs.Rounds.{Turning}
use Rattle.dispatch.proofs.round.Given as goal

abbrev pub invariant-loop-i : goal.invariant-loop-i
invariant-loop-i l =
    (xs : List Listed) → Shows xs l.initial.points l.initial.answers → Turning (common l.initial.image l.fn.shared) xs l.i l.image l.left l.points l.answers
