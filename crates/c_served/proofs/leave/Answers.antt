-- `c_served::leave` meets its contract: what the call for C leaves is what c_lent's definition says (Served). Assumes nothing.
use Rattle.c_lent.specs.Records.{shared_parts, textless_parts}
use Rattle.c_served.proofs.Served.{leave-for}
use Rattle.c_served.proofs.leave.Goals as goal

pub returns : goal.returns
returns c = let a = c.args in
    leave-for a.image.now (shared_parts a.shared.now) (textless_parts a.point.now) _ c.leave.ensures
