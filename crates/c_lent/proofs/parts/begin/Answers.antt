-- `c_lent::parts::begin`: refused where the record's numbers are none, else as the call answers. Assumes nothing.
use Rattle.c_lent.specs.Numbers.{shared_lent, point_lent}
use Rattle.c_lent.proofs.Calls.{tests-none, tests-known, is_none, begin-known}
use Rattle.c_lent.proofs.parts.begin.Goals as goal

pub returns-then-not-is_known : goal.returns-then-not-is_known
returns-then-not-is_known c = let a = c.args in
    rw c.into.ensures (is_none a.image.now (shared_lent a.shared.now a.taken.now) (point_lent a.head.now a.table.now a.text.now) _ _
    (tests-none c.is_known.ensures c.if-not-is_known.true-raw) _ (c.unknown.ensures a.taken.now))

pub head-requires : goal.head-requires
head-requires c = tests-known c.is_known.ensures c.if-not-is_known.false-raw

pub returns : goal.returns
returns c = let a = c.args in
    let y = c.begin_lent-begun in
    begin-known a.image.now (shared_lent a.shared.now a.taken.now) (point_lent a.head.now a.table.now a.text.now)
    (tests-known c.is_known.ensures c.if-not-is_known.false-raw) _ c.head.ensures _ c.lead.ensures a.offset y.result _ _
    _ c.of_reply.ensures _ c.of_head.ensures _ c.put_begun.ensures a.bytes.now _ y.ensures
