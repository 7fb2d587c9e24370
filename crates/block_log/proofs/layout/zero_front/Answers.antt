use mathlib.Core.Path.{◌≡◌, refl, ap, ◌∙◌}
use mathlib.Core.List.{List}
use Prim.Native.Nat.{ℕ}
use native.Mathlib.Omega.{arith}
use lib.ListN.{set}
use borrow.Author.Fill.{fill_none, fill_more}
use Rattle.block_log.proofs.layout.zero_front.Goals as goal

pub loop-i-init : goal.loop-i-init
loop-i-init c = (omega arith, refl, fill_none _ 0)

pub loop-i-preserved : goal.loop-i-preserved
loop-i-preserved c = let a = c.args in
    let l = c.loop-i in
    let k = c.put_word in (
      omega arith,
      k.auto.part ∙ l.invariant.1,
      k.ensures ∙ ap (λ (s : List ℕ). set s l.i 0) l.invariant.2 ∙ fill_more l.i 0 a.image.now (omega arith),
    )

pub shape_of-image : goal.shape_of-image
shape_of-image c = c.loop-i.invariant.1

pub returns : goal.returns
returns c = let l = c.loop-i in let e : l.i ≡ c.args.n = omega arith in rw e at l.invariant.2
