-- The run from its start on the map as it came is the run from here on the map as it is now; block by block, or to the map's end.
use Prim.Native.Nat.{◌+◌, ◌-◌, ◌*◌, ◌<◌}
use mathlib.Core.Path.{◌≡◌}
use lib.ListN.{length}
use Rattle.words.specs.BlockMap.{set_run}
use Rattle.words.proofs.map.set_run.Given as goal

abbrev pub invariant-loop : goal.invariant-loop
invariant-loop l = (l.j < 64) × (length l.map ≡ length l.initial.map) × (set_run l.on l.initial.map l.b l.n ≡ set_run l.on l.map (64 * l.k + l.j) (l.n - l.counter))
