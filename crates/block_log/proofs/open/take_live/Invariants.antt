-- What is left of the table, taken on the map as it is now, is all of it taken on the map as it came; a clash so far or later is a clash.
use mathlib.Core.Path.{◌≡◌}
use mathlib.Core.Bool.{true, ◌||◌}
use lib.ListN.{length, drop}
use Rattle.words.specs.BlockMap.{set_all}
use Rattle.block_log.specs.Parts.{clash}
use Rattle.block_log.proofs.open.take_live.Given as goal

abbrev pub invariant-loop-b : goal.invariant-loop-b
invariant-loop-b l =
    (length l.map ≡ length l.initial.map) × (set_all true l.initial.map l.table ≡ set_all true l.map (drop l.b-index l.table))
    × (clash l.initial.map l.table ≡ l.met || clash l.map (drop l.b-index l.table))
