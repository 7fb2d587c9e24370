-- `points::record::place_fits` meets its contract: its tests are those of the list, from the first on. Assumes nothing.
use Rattle.words.specs.Edition.{one}
use Rattle.points.proofs.Fits.{place-tests}
use Rattle.points.proofs.record.place_fits.Goals as goal

pub returns : goal.returns
returns c = let a = c.args in cc (place-tests one a.blocks a.place)
