-- From the last entry back: the map has the blocks that the entries from j on cover, and the marks from j on are theirs.
use Rattle.inspection.proofs.Overruled.{Marked}
use Rattle.inspection.proofs.read.mark_overruled.Given as goal

abbrev pub invariant-loop-j : goal.invariant-loop-j
invariant-loop-j l = Marked l.entries l.initial.marks l.marks l.later l.j
