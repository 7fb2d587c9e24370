use Prim.Native.Nat.{◌+◌, ◌-◌, ◌*◌}
use mathlib.Core.Path.{◌≡◌, sym, ap, ◌∙◌}
use native.Mathlib.Omega.{arith}
use lib.ListN.{length}
use Rattle.words.proofs.BlockMap.{set_run-next, set_run-none, set_run-past, length-set_block}
use Rattle.words.proofs.map.set_run.Goals as goal
use Rattle.words.proofs.map.set_run.Goals.{else-j-eq64, then-j-eq64}

pub returns-then-map-k : goal.returns-then-map-k
returns-then-map-k c = let a = c.args in
    let l = c.loop in
    sym (l.invariant.2 ∙ set_run-past a.on l.map (64 * l.k + l.j) (a.n - l.counter) (omega arith))

pub loop-preserved : goal.loop-preserved
loop-preserved c = let a = c.args in
    let l = c.loop in
    let at : 64 * c.if-j-eq64.k + c.if-j-eq64.j ≡ 64 * l.k + l.j + 1 = (elim c.if-j-eq64.branch [ then-j-eq64 w ↦ omega arith | else-j-eq64 w ↦ omega arith ]) in
    let left : a.n - l.counter - 1 ≡ a.n - (l.counter + 1) = omega arith in (
      (elim c.if-j-eq64.branch [ then-j-eq64 w ↦ omega arith | else-j-eq64 w ↦ omega arith ]),
      ap length c.set_bit.ensures ∙ length-set_block a.on l.map (64 * l.k + l.j) ∙ l.invariant.1,
      l.invariant.2 ∙ set_run-next a.on l.map (64 * l.k + l.j) (a.n - l.counter) (omega arith) ∙ (rw (at, c.set_bit.ensures, left)),
    )

pub returns : goal.returns
returns c = let a = c.args in
    let l = c.loop in
    sym (l.invariant.2 ∙ set_run-none a.on l.map (64 * l.k + l.j) (a.n - l.counter) (omega arith))
