-- The entries so far, taken in on the table as it came, give the table and the length as they are now.
use lib.ListN.{take}
use Rattle.block_log.specs.CatchUp.{TakenIn}
use Rattle.inspection.proofs.read.replay.Given as goal

abbrev pub invariant-loop-e : goal.invariant-loop-e
invariant-loop-e l = TakenIn (take l.e-index l.entries) l.initial.table 0 l.table l.size
