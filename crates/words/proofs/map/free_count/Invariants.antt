-- After k words, what is left of the blocks and the ones counted give the taken blocks below.
use mathlib.Core.Path.{◌≡◌}
use Prim.Native.Nat.{◌+◌, ◌-◌, ◌*◌, ◌≤◌}
use lib.ListN.{length}
use Rattle.words.proofs.FreeCount.{taken_below}
use Rattle.words.proofs.map.free_count.Given as goal

abbrev pub invariant-loop-w : goal.invariant-loop-w
invariant-loop-w l =
    (l.w-index-end ≡ length l.map) × (l.w-index ≤ l.w-index-end) × (l.left ≡ l.blocks - 64 * l.w-index) × (l.left ≤ l.free) × (l.free ≤ l.blocks)
    × (l.free + taken_below l.map (l.blocks - l.left) ≡ l.blocks)
