-- `c_lent::numbers::put`: number by number, then the reports. Assumes nothing.
use mathlib.Core.Path.{◌≡◌, ◌∙◌, ap}
use mathlib.Core.List.{List}
use Prim.Native.Nat.{ℕ}
use native.Mathlib.Omega.{arith}
use lib.ListN.{length, length-set}
use Rattle.c_lent.specs.Numbers.{shared_as}
use Rattle.c_lent.proofs.Shared.{back_32, first_three, numbers-put}
use Rattle.c_lent.proofs.numbers.put.Goals as goal

pub returns : goal.returns
returns c = let a = c.args in
    let s = a.shared in
    let xs = first_three a.to.now.numbers s.blocks s.joined s.chain in
    let long : length a.to.now.numbers ≡ 35 = omega arith in
    ap (λ (ys : List ℕ). shared_as ys s.taken)
    (back_32 xs (simp length-set long) c.copy_from_slice.new.self ∙ rw c.copy_from_slice.ensures.after
    (numbers-put a.to.now.numbers s.reports s.blocks s.joined s.chain (omega (arith, long))))
