-- The log blocks read so far lie in front of the array and are in the map; what is read from here on, behind them, is the chain.
use Rattle.inspection.proofs.ReadOn.{Read}
use Rattle.inspection.proofs.read.read_chain.Given as goal

abbrev pub invariant-loop-count : goal.invariant-loop-count
invariant-loop-count l = Read l.image l.blocks l.initial.chain l.chain l.map l.b l.count
