-- `c_lent::leave`: refused where the record's numbers are none, else as the call answers. Assumes nothing.
use Rattle.points.specs.Record.{no_text}
use Rattle.c_lent.specs.Records.{shared_parts, textless_parts}
use Rattle.c_lent.proofs.Calls.{tests-none, tests-known, is_none, leave-known}
use Rattle.c_lent.proofs.leave.Goals as goal

pub returns-then-not-is_known : goal.returns-then-not-is_known
returns-then-not-is_known c = let a = c.args in
    rw c.into.ensures (is_none a.image.now (shared_parts a.shared.now) (textless_parts a.point.now) _ _
    (tests-none c.is_known.ensures c.if-not-is_known.true-raw) _ (c.unknown.ensures a.shared.now.taken))

pub head-requires : goal.head-requires
head-requires c = tests-known c.is_known.ensures c.if-not-is_known.false-raw

pub returns : goal.returns
returns c = let a = c.args in
    leave-known a.image.now (shared_parts a.shared.now) (textless_parts a.point.now)
    (tests-known c.is_known.ensures c.if-not-is_known.false-raw) _ c.head.ensures _ c.from.ensures
    c.leave_lent-left.result (c.leave_lent-left.ensures no_text) _ c.of_reply.ensures _ c.put.ensures
