-- The table is gone through downwards, so that the mark of the lowest virtual block stands; place by place.
use mathlib.Core.Path.{◌≡◌}
use Prim.Native.Nat.{ℕ}
use lib.ListN.{length, drop, get_or}
use Rattle.block_log.specs.Parts.{live_mark}
use Rattle.block_log.proofs.open.mark_live.Given as goal

abbrev pub invariant-loop-v : goal.invariant-loop-v
invariant-loop-v l = (length l.scratch ≡ length l.initial.scratch) × ((i : ℕ) → get_or l.scratch i 0 ≡ live_mark (drop l.v l.table) l.v l.initial.scratch i)
