use Prim.Native.Nat.{◌+◌, ◌-◌}
use mathlib.Core.Path.{◌≡◌}
use native.Mathlib.Omega.{arith}
use Rattle.points.specs.Lent.{mixed_byte}
use Rattle.points.proofs.NewWord.{next-byte}
use Rattle.points.proofs.fill.edge_word.Goals as goal

pub loop-p-init : goal.loop-p-init
loop-p-init c = let z : c.args.at + 8 - (c.args.at + 8) ≡ 0 = omega arith in (omega arith, omega arith, rw z, rw z (omega arith))

pub loop-p-preserved : goal.loop-p-preserved
loop-p-preserved c = let a = c.args in
    let l = c.loop-p in
    next-byte (mixed_byte a.copied a.text.now a.lead a.end a.at) a.at l.p l.word c.mixed_byte.result l.invariant (omega arith)
    c.mixed_byte.ensures.0 c.mixed_byte.ensures.1

pub returns : goal.returns
returns c = let l = c.loop-p in
    let a = c.args in
    let p : l.p ≡ a.at = omega arith in
    let n : a.at + 8 - a.at ≡ 8 = omega arith in
    rw (p, n) at l.invariant.2
