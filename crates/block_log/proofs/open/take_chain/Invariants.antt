-- What is left of the chain, taken on the map as it is now, is all of it taken on the map as it came.
use mathlib.Core.Path.{◌≡◌}
use mathlib.Core.Bool.{true}
use lib.ListN.{length}
use Rattle.words.specs.BlockMap.{set_all}
use Rattle.words.specs.Edition.{one}
use Rattle.words.specs.Memory.{memory}
use Rattle.block_log.specs.Chain.{chain}
use Rattle.block_log.specs.Links.{links_left}
use Rattle.block_log.proofs.open.take_chain.Given as goal

abbrev pub invariant-loop-b : goal.invariant-loop-b
invariant-loop-b l = (goal.iterator-loop-b).can_next l.b-iterator × (goal.iterator-loop-b).is_finite l.b-iterator × (length l.map ≡ length l.initial.map)
    × (set_all true l.initial.map (chain (memory one l.image)) ≡ set_all true l.map (links_left l.b-iterator))
