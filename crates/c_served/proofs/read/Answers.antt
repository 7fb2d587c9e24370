-- `c_served::read` meets its contract: what the call for C leaves is what c_lent's definition says (Served). Assumes nothing.
use Rattle.c_lent.specs.Records.{shared_parts, textless_parts}
use Rattle.c_served.proofs.Served.{read-for}
use Rattle.c_served.proofs.read.Goals as goal

pub returns : goal.returns
returns c = let a = c.args in
    read-for a.image.now (shared_parts a.shared.now) (textless_parts a.point.now) a.offset a.buffer.now
    _ c.read.ensures
