-- `c_served::step` meets its contract: what the call for C leaves is what c_lent's definition says (Served). Assumes nothing.
use Rattle.c_lent.specs.Records.{shared_parts, point_parts}
use Rattle.c_served.proofs.Served.{step-for}
use Rattle.c_served.proofs.step.Goals as goal

pub returns : goal.returns
returns c = let a = c.args in
    step-for a.image.now (shared_parts a.shared.now) (point_parts a.point.now) a.bytes.now
    _ c.step.ensures
