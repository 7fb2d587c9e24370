-- After i digits the first i stand there.
use mathlib.Core.Path.{◌≡◌}
use mathlib.Core.List.{◌++◌}
use lib.ListN.{drop, replicate}
use Rattle.words.specs.Logic.{list_from}
use Rattle.small.specs.SmallLogs.{digit_at}
use Rattle.small.proofs.digits_of.Given as goal

abbrev pub invariant-loop-i : goal.invariant-loop-i
invariant-loop-i l = l.digit-items ≡ list_from 0 l.i (digit_at l.e) ++ drop l.i (replicate 16 0)
