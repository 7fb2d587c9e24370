-- What is left of the chain, marked on the scratch as it is now, is all of it marked on the scratch as it came.
use mathlib.Core.Path.{◌≡◌}
use mathlib.Core.Bool.{false}
use Prim.Native.Nat.{ℕ}
use lib.ListN.{length}
use Rattle.words.specs.Edition.{one}
use Rattle.words.specs.Logic.{some_of}
use Rattle.words.specs.Memory.{memory}
use Rattle.block_log.specs.Chain.{chain, outside}
use Rattle.block_log.specs.Links.{links_left}
use Rattle.block_log.specs.Parts.{chain_mark}
use Rattle.block_log.proofs.open.mark_chain.Given as goal

abbrev pub invariant-loop-b : goal.invariant-loop-b
invariant-loop-b l = (goal.iterator-loop-b).can_next l.b-iterator × (goal.iterator-loop-b).is_finite l.b-iterator
    × (length l.scratch ≡ length l.initial.scratch) × (some_of (outside 1024) (links_left l.b-iterator) ≡ false)
    × ((i : ℕ) → chain_mark (chain (memory one l.image)) l.initial.scratch i ≡ chain_mark (links_left l.b-iterator) l.scratch i)
