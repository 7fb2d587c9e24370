-- `points::serve::rows_fit`: the rows before fit.
use Prim.Native.Nat.{ℕ, ◌<◌}
use lib.ListN.{get_or}
use Rattle.std.specs.Prelude.{None}
use Rattle.points.specs.Batch.{RowFits}
use Rattle.points.proofs.serve.rows_fit.Given as goal

abbrev pub invariant-loop-due : goal.invariant-loop-due
invariant-loop-due l = (j : ℕ) → j < l.due-index → RowFits l.size l.m (get_or l.rows j None)
