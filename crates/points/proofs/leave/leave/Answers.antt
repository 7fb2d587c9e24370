-- `points::leave::leave`: leaving does not look at the text, so any will do. Assumes nothing.
use Rattle.points.proofs.leave.leave.Goals as goal

pub returns : goal.returns
returns c = let a = c.args in c.leave_lent.ensures a.point.text
