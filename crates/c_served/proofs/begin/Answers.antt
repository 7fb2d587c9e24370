-- `c_served::begin` meets its contract: what the call for C leaves is what c_lent's definition says (Served). Assumes nothing.
use Rattle.c_lent.specs.Records.{shared_parts, point_parts}
use Rattle.c_served.proofs.Served.{begin-for}
use Rattle.c_served.proofs.begin.Goals as goal

pub returns : goal.returns
returns c = let a = c.args in
    begin-for a.image.now (shared_parts a.shared.now) (point_parts a.point.now) a.offset a.bytes.now
    _ c.begin.ensures
