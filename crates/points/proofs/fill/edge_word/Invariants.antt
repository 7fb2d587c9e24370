-- `points::fill::edge_word`: from the last byte down, the word so far is the definition's list of bytes from that place on.
use Rattle.points.specs.Lent.{mixed_byte}
use Rattle.points.proofs.NewWord.{Done}
use Rattle.points.proofs.fill.edge_word.Given as goal

abbrev pub invariant-loop-p : goal.invariant-loop-p
invariant-loop-p l = Done (mixed_byte l.copied l.text l.lead l.end l.at) l.at l.p l.word

abbrev pub decreases-loop-p : goal.decreases-loop-p
decreases-loop-p l = l.p
