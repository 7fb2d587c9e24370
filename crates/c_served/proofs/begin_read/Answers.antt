-- `c_served::begin_read` meets its contract: what the call for C leaves is what c_lent's definition says (Served). Assumes nothing.
use Rattle.c_lent.specs.Records.{shared_parts, point_parts}
use Rattle.c_served.proofs.Served.{begin-read-for}
use Rattle.c_served.proofs.begin_read.Goals as goal

pub returns : goal.returns
returns c = let a = c.args in
    begin-read-for a.image.now (shared_parts a.shared.now) (point_parts a.point.now) a.offset a.size
    _ c.begin_read.ensures
