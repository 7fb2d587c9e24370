-- `c_lent::join`. Assumes nothing.
use Rattle.c_lent.specs.Records.{shared_parts}
use Rattle.c_lent.proofs.Calls.{join-as}
use Rattle.c_lent.proofs.join.Goals as goal

pub returns : goal.returns
returns c = let a = c.args in
    join-as a.image.now (shared_parts a.shared.now) a.number _ c.from.ensures c.join-joined.result c.join-joined.ensures
    _ c.of_reply.ensures _ _ c.put.ensures c.of_head-head.ensures
