-- `points::serve::fill_words`: what is left to fill of the image as it is now is all of it on the image as it came.
use Prim.Native.Nat.{ℕ, ◌+◌, ◌-◌, ◌≤◌, ◌<◌}
use mathlib.Core.Path.{◌≡◌}
use mathlib.Core.List.{List}
use lib.ListN.{length}
use Rattle.words.specs.Edition.{one}
use Rattle.points.specs.declared.Head.{Head}
use Rattle.points.specs.Batch.{filled_on, row_of, InOneBlock}
use Rattle.points.proofs.serve.fill_words.Given as goal

abbrev pub invariant-loop-i : goal.invariant-loop-i
invariant-loop-i l =
    (l.i-end ≡ l.k + l.m) × (l.k ≤ l.i) × (l.i ≤ l.k + l.m) × (l.k + l.m ≤ 192) × (l.row.end ≤ l.row.lead + 1024) × (length l.image ≡ length l.initial.image)
    × ((h : Head) (t : List ℕ) → InOneBlock h l.k l.m → (0 < l.m → l.row ≡ row_of one h t l.k)
    → filled_on one h t l.text l.k l.m l.initial.image ≡ filled_on one h t l.text l.i (l.k + l.m - l.i) l.image)
