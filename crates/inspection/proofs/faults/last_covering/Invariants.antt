-- None of those passed covers; the first that does is the last of all.
use mathlib.Core.Path.{◌≡◌}
use mathlib.Core.Bool.{false}
use lib.ListN.{drop}
use Rattle.words.specs.Logic.{some_of}
use Rattle.block_log.specs.Entry.{covers}
use Rattle.inspection.proofs.faults.last_covering.Given as goal

abbrev pub invariant-loop-j : goal.invariant-loop-j
invariant-loop-j l = some_of (covers l.v) (drop l.j l.entries) ≡ false
