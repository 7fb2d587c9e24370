-- A block below the entry's first is not covered; else it is by its distance.
use mathlib.Core.Path.{sym}
use Rattle.block_log.specs.Entry.{entry_v, entry_n}
use Rattle.block_log.proofs.Entry.{covers_below, covers-in}
use Rattle.block_log.proofs.ahead.covers.Goals as goal

pub returns-then-at-v : goal.returns-then-at-v
returns-then-at-v c = let a = c.args in
    let v = c.first_virtual-v in
    sym (covers_below (entry_v a.e) a.x _ (rw v.ensures.0 at c.if-at-v.true))

pub returns : goal.returns
returns c = let a = c.args in
    let v = c.first_virtual-v in
    let n = c.count-n in
    rw (v.ensures.0, n.ensures) (sym (covers-in (entry_v a.e) (entry_n a.e) a.x (rw v.ensures.0 at c.if-at-v.false)))
