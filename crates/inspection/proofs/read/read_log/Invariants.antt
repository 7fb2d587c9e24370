-- The entries of the log blocks so far are all legal and lie in front; what can be read of the rest comes behind them.
use Rattle.inspection.proofs.Legal.{Gathered}
use Rattle.inspection.proofs.read.read_log.Given as goal

abbrev pub invariant-loop-b : goal.invariant-loop-b
invariant-loop-b l = Gathered l.image l.blocks l.chain l.initial.entries l.entries l.n l.b-index
