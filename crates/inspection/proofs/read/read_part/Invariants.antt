-- The legal entries of the slots are those laid down so far, and those from here on.
use Rattle.inspection.proofs.Legal.{Laid}
use Rattle.inspection.proofs.read.read_part.Given as goal

abbrev pub invariant-loop-i : goal.invariant-loop-i
invariant-loop-i l = Laid l.part l.blocks l.initial.entries l.entries l.n l.i
