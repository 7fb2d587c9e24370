use mathlib.Core.Path.{◌≡◌}
use Prim.Native.Nat.{◌-◌}
use lib.ListN.{length}
use Rattle.words.specs.Logic.{list_from}
use Rattle.points.specs.Serving.{twice}
use Rattle.c_lent.specs.Serving.{number_at}
use Rattle.c_lent.proofs.serve.listed_twice.Given as goal

abbrev pub invariant-loop-i : goal.invariant-loop-i
invariant-loop-i l = twice (list_from 0 (length l.heads) (number_at l.heads)) ≡ twice (list_from l.i (length l.heads - l.i) (number_at l.heads))
