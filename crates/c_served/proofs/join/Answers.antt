-- `c_served::join` meets its contract: what the call for C leaves is what c_lent's definition says (Served). Assumes nothing.
use Rattle.c_lent.specs.Records.{shared_parts}
use Rattle.c_served.proofs.Served.{join-for}
use Rattle.c_served.proofs.join.Goals as goal

pub returns : goal.returns
returns c = let a = c.args in
    join-for a.image.now (shared_parts a.shared.now) a.number _ c.join.ensures
