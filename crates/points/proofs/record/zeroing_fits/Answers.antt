-- `points::record::zeroing_fits` meets its contract: its tests are those of the list, from the first on. Assumes nothing.
use Rattle.words.specs.Edition.{one}
use Rattle.points.proofs.Fits.{zeroing-tests}
use Rattle.points.proofs.record.zeroing_fits.Goals as goal

pub returns : goal.returns
returns c = let a = c.args in cc (zeroing-tests one a.blocks a.place a.write)
