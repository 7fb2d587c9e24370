use Prim.Native.Nat.{ℕ, ◌<◌}
use mathlib.Core.List.{[]}
use lib.ListN.{length, get_or}
use Rattle.c_lent.specs.Batch.{PlainAt}
use Rattle.c_lent.proofs.WordsLeft.{GoesAt}
use Rattle.c_lent.proofs.batch.plain_words.Given as goal

abbrev pub invariant-loop-head : goal.invariant-loop-head
invariant-loop-head l = 0 < l.least → (j : ℕ) → j < length l.yielded → GoesAt l.answers j → PlainAt l.least (get_or l.heads j [])
