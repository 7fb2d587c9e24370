use mathlib.Core.Path.{◌≡◌}
use lib.ListN.{drop}
use Rattle.points.specs.Serving.{twice, point_numbers}
use Rattle.dispatch.proofs.listed_twice.Given as goal

abbrev pub invariant-loop-i : goal.invariant-loop-i
invariant-loop-i l = twice (point_numbers l.points) ≡ twice (point_numbers (drop l.i l.points))
