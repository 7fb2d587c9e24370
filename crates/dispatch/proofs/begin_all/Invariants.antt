use Rattle.dispatch.proofs.Beginnings.{Begins}
use Rattle.dispatch.proofs.begin_all.Given as goal

abbrev pub invariant-loop-i : goal.invariant-loop-i
invariant-loop-i l = Begins l.image l.fn.shared l.initial.points l.initial.answers l.writes l.bytes l.i l.start l.left l.points l.answers
