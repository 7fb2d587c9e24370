-- `c_served::locate` meets its contract: what the call for C answers is what c_lent's definition says (Served). Assumes nothing.
use Rattle.c_lent.specs.Records.{shared_parts, textless_parts}
use Rattle.c_served.proofs.Served.{locate-for}
use Rattle.c_served.proofs.locate.Goals as goal

pub returns : goal.returns
returns c = let a = c.args in
    locate-for a.image.now (shared_parts a.shared.now) (textless_parts a.point.now) a.block _ c.locate.ensures
