-- `c_lent::read`: refused where the record's numbers are none, and the buffer untouched; else as the call answers. Assumes nothing.
use Rattle.c_lent.specs.Records.{shared_parts, textless_parts}
use Rattle.c_lent.proofs.Calls.{tests-none, tests-known, is_none, read_known}
use Rattle.c_lent.proofs.read.Goals as goal

pub returns-then-not-is_known : goal.returns-then-not-is_known
returns-then-not-is_known c = let a = c.args in
    rw c.no_count.ensures
    (is_none a.image.now (shared_parts a.shared.now) (textless_parts a.point.now) _ _
    (tests-none c.is_known.ensures c.if-not-is_known.true-raw) _ (c.unknown.ensures a.shared.now.taken))

pub head-requires : goal.head-requires
head-requires c = tests-known c.is_known.ensures c.if-not-is_known.false-raw

pub returns : goal.returns
returns c = let a = c.args in
    read_known a.image.now (shared_parts a.shared.now) (textless_parts a.point.now)
    (tests-known c.is_known.ensures c.if-not-is_known.false-raw) _ c.head.ensures _ c.lead.ensures a.offset a.buffer.now
    _ _ _ (c.read_lent.ensures a.shared.now.taken) c.from.ensures
