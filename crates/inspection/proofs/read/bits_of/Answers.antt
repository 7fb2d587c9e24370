use mathlib.Core.Path.{◌≡◌, sym}
use Prim.Native.Nat.{◌+◌, ◌-◌}
use native.Mathlib.Omega.{arith}
use Rattle.words.specs.BlockMap.{taken}
use Rattle.words.specs.Logic.{one_if}
use Rattle.inspection.proofs.Overruled.{word_none, word_fits, word_on, one-small}
use Rattle.inspection.proofs.read.bits_of.Goals as goal

pub loop-i-init : goal.loop-i-init
loop-i-init c = let a = c.args in
    let e : a.n - a.n ≡ 0 = omega arith in
    rw e (sym (word_none (taken a.map.now) (a.v + a.n)))

pub overflow_mul-w : goal.overflow_mul-w
overflow_mul-w c = let l = c.loop-i in
    let a = c.args in
    omega (arith, l.invariant, word_fits (taken a.map.now) (a.v + l.i) (a.n - l.i) (omega (arith, c.requires.0)))

pub overflow_add-w : goal.overflow_add-w
overflow_add-w c = let l = c.loop-i in
    omega (
      arith,
      l.invariant,
      word_fits (taken c.args.map.now) (c.args.v + l.i) (c.args.n - l.i) (omega (arith, c.requires.0)),
      c.from.ensures,
      one-small c.is_taken.result,
    )

pub loop-i-preserved : goal.loop-i-preserved
loop-i-preserved c = let l = c.loop-i in
    let a = c.args in
    let e : c.from.result ≡ one_if (taken a.map.now (a.v + (l.i - 1))) = rw c.is_taken.ensures at c.from.ensures in
    word_on (taken a.map.now) a.v a.n l.i l.auto.i (omega arith) l.w c.from.result l.invariant e

pub returns : goal.returns
returns c = let l = c.loop-i in
    let a = c.args in
    let z : l.i ≡ 0 = omega arith in
    let e : a.v + 0 ≡ a.v = omega arith in
    let f : a.n - 0 ≡ a.n = omega arith in
    rw (z, e, f) at l.invariant
