use mathlib.Core.List.{List}
use Prim.Native.Nat.{◌-◌}
use Rattle.points.specs.Serving.{Listed, rounds, step_turn}
use Rattle.words.specs.Edition.{one}
use Rattle.dispatch.specs.Turns.{common, Shows}
use Rattle.dispatch.proofs.Rounds.{Going}
use Rattle.dispatch.proofs.all_rounds.Given as goal

abbrev pub invariant-loop : goal.invariant-loop
invariant-loop l =
    (xs : List Listed) → Shows xs l.initial.points l.initial.answers
    → Going (rounds l.most (step_turn one) (common l.initial.image l.fn.shared) xs) (l.most - l.counter) l.image l.left l.points l.answers
