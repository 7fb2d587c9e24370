-- `points::release::free_mapped_from`: what is left to free makes of the map so far what the whole list makes of the first.
use mathlib.Core.Path.{◌≡◌}
use mathlib.Core.Bool.{false}
use lib.ListN.{length, drop}
use Rattle.words.specs.BlockMap.{set_all}
use Rattle.points.proofs.release.free_mapped_from.Given as goal

abbrev pub invariant-loop-b : goal.invariant-loop-b
invariant-loop-b l = (set_all false l.initial.map l.b-items ≡ set_all false l.map (drop l.b-index l.b-items)) × (length l.map ≡ length l.initial.map)
