-- `points::record::range_fits` meets its contract: its tests are those of the list. Assumes nothing.
use Rattle.words.specs.Edition.{one}
use Rattle.points.proofs.Fits.{range-tests}
use Rattle.points.proofs.record.range_fits.Goals as goal

pub returns : goal.returns
returns c = let a = c.args in cc (range-tests one a.write)
