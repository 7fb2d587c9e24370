use mathlib.Core.Path.{sym}
use Prim.Native.Nat.{◌-◌}
use native.Mathlib.Omega.{arith}
use Rattle.inspection.proofs.Legal.{valid-at}
use Rattle.inspection.proofs.Overruled.{mark-begin, mark-again, mark-end}
use Rattle.inspection.proofs.read.mark_overruled.Goals as goal

pub loop-j-init : goal.loop-j-init
loop-j-init c = mark-begin c.args.entries.now c.args.marks.now

pub bits_of-requires : goal.bits_of-requires
bits_of-requires c = let v = valid-at c.args.entries.now (c.loop-j.j - 1) (omega (arith, c.loop-j.auto.j)) c.requires.1 in
    (omega (arith, c.count-count.ensures, v.few), omega (arith, c.first_virtual-v.ensures.1))

pub slice_bounds-set_run-end : goal.slice_bounds-set_run-end
slice_bounds-set_run-end c = sym c.loop-j.invariant.map

pub loop-j-preserved : goal.loop-j-preserved
loop-j-preserved c = let l = c.loop-j in
    let v = valid-at c.args.entries.now (l.j - 1) (omega (arith, l.auto.j)) c.requires.1 in
    mark-again l.invariant (omega (arith, c.requires.0)) c.loop-j-test.true _ _ (omega (arith, v.virtual))
    (rw (c.first_virtual-v.ensures.0, c.count-count.ensures) at c.bits_of.ensures)
    (rw (c.first_virtual-v.ensures.0, c.count-count.ensures) at c.set_run.ensures)

pub returns : goal.returns
returns c = mark-end c.loop-j.invariant c.loop-j-test.false
