-- `c_lent::batch::all_go_on`: those before i are so many words on.
use mathlib.Core.Path.{◌≡◌}
use Prim.Native.Nat.{◌-◌, ◌≤◌}
use lib.ListN.{length}
use Rattle.c_lent.proofs.ByRows.{AreOn}
use Rattle.c_lent.proofs.batch.all_go_on.Given as goal

abbrev pub invariant-loop-i : goal.invariant-loop-i
invariant-loop-i l =
    (l.i ≤ length l.initial.heads)
    × (l.i-end ≡ length l.initial.heads)
    × (length l.heads ≡ length l.initial.heads)
    × (length l.answers ≡ length l.initial.heads)
    × AreOn l.m l.initial.heads l.initial.answers l.i l.heads l.answers

abbrev pub decreases-loop-i : goal.decreases-loop-i
decreases-loop-i l = length l.initial.heads - l.i
