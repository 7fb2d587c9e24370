use mathlib.Core.Path.{◌≡◌}
use Prim.Native.Nat.{ℕ, ◌≤◌, ◌<◌, ◌-◌}
use mathlib.Core.List.{[]}
use Rattle.std.specs.Prelude.{None}
use lib.ListN.{length, get_or}
use Rattle.c_lent.specs.Batch.{RowIs}
use Rattle.c_lent.proofs.batch.rows_for.Given as goal

abbrev pub invariant-loop-i : goal.invariant-loop-i
invariant-loop-i l =
    (l.i ≤ length l.heads)
    × (l.i-end ≡ length l.heads)
    × (length l.tables ≡ length l.heads)
    × (length l.answers ≡ length l.heads)
    × (length l.heads ≤ length l.rows)
    × (length l.rows ≡ length l.initial.rows)
    × ((j : ℕ) → j < l.i → RowIs (get_or (get_or l.answers j []) 0 0) (get_or l.rows j None) (get_or l.heads j []) (get_or l.tables j []))

abbrev pub decreases-loop-i : goal.decreases-loop-i
decreases-loop-i l = length l.heads - l.i
