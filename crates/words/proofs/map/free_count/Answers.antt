use mathlib.Core.Path.{◌≡◌}
use Prim.Native.Nat.{◌-◌}
use native.Mathlib.Omega.{arith}
use Rattle.words.proofs.FreeCount.{taken_below, count-step, count-end}
use Rattle.words.proofs.map.free_count.Goals as goal

pub loop-w-init : goal.loop-w-init
unfolding taken_below
loop-w-init c = let b = c.args.blocks in
    let e : b - b ≡ 0 = omega arith in
    (omega arith, omega arith, omega arith, omega arith, omega arith, rw e (omega arith))

pub loop-w-preserved : goal.loop-w-preserved
loop-w-preserved c = let a = c.args in
    let l = c.loop-w in
    let n = c.min-n in
    let o = c.ones_below-free in
    let e = o.ensures.0 in
    let w = count-step a.map.now a.blocks l.w-index l.left n.result o.result l.free l.invariant.2 n.ensures o.ensures.0 o.ensures.1
    l.invariant.3 l.invariant.5 in
    (omega arith, omega arith, omega arith, omega arith, omega arith, w)

pub returns : goal.returns
returns c = let a = c.args in
    let l = c.loop-w in
    count-end a.map.now a.blocks l.w-index l.left l.free (omega arith) (omega arith) l.invariant.2 l.invariant.5
