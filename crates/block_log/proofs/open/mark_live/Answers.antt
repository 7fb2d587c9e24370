use mathlib.Core.Path.{◌≡◌, refl, ◌∙◌}
use Prim.Native.Nat.{suc, ◌+◌, ◌-◌}
use native.Mathlib.Omega.{arith}
use lib.ListN.{get_or, length-set}
use Rattle.block_log.proofs.Scratch.{live-mark-start, live-mark-step}
use Rattle.block_log.proofs.open.mark_live.Goals as goal

pub loop-v-init : goal.loop-v-init
loop-v-init c = (refl, λ i. live-mark-start c.args.table.now c.args.scratch.now 256 i (omega (arith, c.requires.0.entries)))

pub loop-v-preserved : goal.loop-v-preserved
loop-v-preserved c = let a = c.args in
    let l = c.loop-v in
    let v = l.v - 1 in
    let e : l.v ≡ suc v = omega arith in
    let q : v + 1 ≡ suc v = omega arith in (
      length-set l.scratch (get_or a.table.now v 0) (v + 1) ∙ l.invariant.0,
      rw q (live-mark-step a.table.now a.scratch.now l.scratch v (omega (arith, c.requires.0.entries))
          (omega (arith, c.requires.0.inside v)) (λ i. rw e at (l.invariant.1 i))),
    )
