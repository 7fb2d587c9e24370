-- `points::shared::numbers`: the reports are looked at once. Assumes nothing.
use Rattle.points.proofs.shared.numbers.Goals as goal

pub returns : goal.returns
returns c = rw c.all_below.ensures
