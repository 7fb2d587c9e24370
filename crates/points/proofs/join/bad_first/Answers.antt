-- `points::join::bad_first` meets its contract: a test for 0 and one for the block count. Assumes nothing.
use Rattle.words.specs.Edition.{one}
use Rattle.words.specs.Memory.{memory}
use Rattle.points.proofs.Joins.{first-tests}
use Rattle.points.proofs.join.bad_first.Goals as goal

pub returns : goal.returns
returns c = let a = c.args in cc (first-tests a.blocks (memory one a.image.now))
