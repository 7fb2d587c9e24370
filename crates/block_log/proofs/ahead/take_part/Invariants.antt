-- Where all entries are legal, what is left of the part taken in on what is there now is all of it taken in on what came.
use mathlib.Core.Path.{◌≡◌}
use mathlib.Core.Bool.{false}
use lib.ListN.{drop}
use Rattle.words.specs.Edition.{one}
use Rattle.words.specs.Logic.{up_to_zero}
use Rattle.block_log.specs.Opening.{bad_entry}
use Rattle.block_log.specs.Replay.{replay_on}
use Rattle.block_log.proofs.ahead.take_part.Given as goal

abbrev pub invariant-loop-e : goal.invariant-loop-e
invariant-loop-e l = bad_entry one l.blocks (up_to_zero (drop l.from l.part)) ≡ false
    → (bad_entry one l.blocks (up_to_zero (drop l.e-index l.e-items)) ≡ false)
    × (replay_on one (record { table = l.initial.table; size = l.size }) (up_to_zero (drop l.from l.part))
    ≡ replay_on one (record { table = l.table; size = l.end }) (up_to_zero (drop l.e-index l.e-items)))
