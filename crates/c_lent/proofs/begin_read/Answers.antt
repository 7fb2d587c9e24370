-- `c_lent::begin_read`: refused where the record's numbers are none, else as the call answers. Assumes nothing.
use Rattle.c_lent.specs.Records.{shared_parts, point_parts}
use Rattle.c_lent.proofs.Calls.{tests-none, tests-known, is_none, begin-read-known}
use Rattle.c_lent.proofs.begin_read.Goals as goal

pub returns-then-not-is_known : goal.returns-then-not-is_known
returns-then-not-is_known c = let a = c.args in
    rw c.into.ensures (is_none a.image.now (shared_parts a.shared.now) (point_parts a.point.now) _ _
    (tests-none c.is_known.ensures c.if-not-is_known.true-raw) _ (c.unknown.ensures a.shared.now.taken))

pub head-requires : goal.head-requires
head-requires c = tests-known c.is_known.ensures c.if-not-is_known.false-raw

pub returns : goal.returns
returns c = let a = c.args in
    let y = c.begin_read_lent-begun in
    begin-read-known a.image.now (shared_parts a.shared.now) (point_parts a.point.now)
    (tests-known c.is_known.ensures c.if-not-is_known.false-raw) _ c.head.ensures _ c.lead.ensures a.offset y.result _ _
    _ c.of_reply.ensures _ c.of_head-point.ensures _ c.put_begun.ensures a.size (y.ensures a.shared.now.taken)
