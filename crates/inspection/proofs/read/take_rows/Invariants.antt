-- What is left of the table, taken on the map as it is now, is all of it taken on the map as it came.
use mathlib.Core.Path.{◌≡◌}
use mathlib.Core.Bool.{true}
use lib.ListN.{drop}
use Rattle.words.specs.BlockMap.{set_all}
use Rattle.inspection.proofs.read.take_rows.Given as goal

abbrev pub invariant-loop-b : goal.invariant-loop-b
invariant-loop-b l = set_all true l.initial.map l.table ≡ set_all true l.map (drop l.b-index l.table)
