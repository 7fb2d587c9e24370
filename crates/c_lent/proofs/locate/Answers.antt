-- `c_lent::locate`: refused where the record's numbers are none, else as the call answers. Assumes nothing.
use mathlib.Core.Path.{◌∙◌}
use Rattle.c_lent.specs.Records.{shared_parts, textless_parts}
use Rattle.c_lent.proofs.Calls.{tests-none, tests-known, is_none, locate-known}
use Rattle.c_lent.proofs.locate.Goals as goal

pub returns-then-not-is_known : goal.returns-then-not-is_known
returns-then-not-is_known c = let a = c.args in
    c.no_count.ensures
    ∙ is_none a.image.now (shared_parts a.shared.now) (textless_parts a.point.now) _ _
    (tests-none c.is_known.ensures c.if-not-is_known.true-raw) _ (c.unknown.ensures a.shared.now.taken)

pub head-requires : goal.head-requires
head-requires c = tests-known c.is_known.ensures c.if-not-is_known.false-raw

pub returns : goal.returns
returns c = let a = c.args in
    locate-known a.image.now (shared_parts a.shared.now) (textless_parts a.point.now)
    (tests-known c.is_known.ensures c.if-not-is_known.false-raw) _ c.head.ensures _ c.lead.ensures a.block
    _ _ (c.locate_lent.ensures a.shared.now.taken) c.from.ensures
