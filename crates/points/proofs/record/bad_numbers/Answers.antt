-- `points::record::bad_numbers` meets its contract: its tests are those of the list, from the first on. Assumes nothing.
use Rattle.words.specs.Edition.{one}
use Rattle.points.specs.Search.{shared_of}
use Rattle.points.proofs.Fits.{shared-tests}
use Rattle.points.proofs.record.bad_numbers.Goals as goal

pub returns : goal.returns
returns c taken reports known = let a = c.args in
    let q = known in
    cc (shared-tests one a.image.now (shared_of a.numbers taken reports))
