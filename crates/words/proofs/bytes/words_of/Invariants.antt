-- After i words the first i are those that the bytes make, and the others are as they came.
use mathlib.Core.Path.{◌≡◌}
use mathlib.Core.List.{◌++◌}
use lib.ListN.{length, drop}
use Rattle.words.specs.Word.{words_of}
use Rattle.words.proofs.bytes.words_of.Given as goal

abbrev pub invariant-loop-i : goal.invariant-loop-i
invariant-loop-i l = (length l.initial.word-items ≡ l.n) × (l.word-items ≡ words_of l.bytes l.i ++ drop l.i l.initial.word-items)
