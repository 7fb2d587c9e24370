use mathlib.Core.Path.{◌≡◌, refl, sym, ◌∙◌}
use mathlib.Core.Bool.{Bool}
use mathlib.Core.List.{List}
use Prim.Native.Nat.{ℕ, suc, ◌+◌, ◌-◌}
use native.Mathlib.Omega.{arith}
use lib.ListN.{length, drop, take, length-drop}
use lib.Seq.{take_all}
use Rattle.words.specs.Logic.{member, list_from}
use Rattle.c_lent.specs.Serving.{number_at}
use Rattle.c_lent.proofs.Places.{rest-list, twice-here, twice-later, twice-nowhere}
use Rattle.c_lent.proofs.serve.listed_twice.Goals as goal

-- what is asked of the points after point i
after : (heads : List (List ℕ)) (i : ℕ) (r : Bool) → (let rest = take (length heads - (i + 1)) (drop (i + 1) heads) in
    r ≡ member (number_at heads i) (list_from 0 (length rest) (number_at rest)))
    → member (number_at heads i) (list_from (suc i) (length heads - suc i) (number_at heads)) ≡ r
after heads i r e =
    let one : i + 1 ≡ suc i = omega arith in
    let all : take (length heads - suc i) (drop (suc i) heads) ≡ drop (suc i) heads = take_all _ _ (omega (arith, length-drop (suc i) heads)) in
    rw (rest-list (suc i) number_at (λ x xs j. refl) heads) (sym (rw (one, all) at e))

pub loop-i-init : goal.loop-i-init
loop-i-init c = let e : length c.args.heads.now - 0 ≡ length c.args.heads.now = omega arith in rw e

pub returns-then-has_number : goal.returns-then-has_number
returns-then-has_number c = let l = c.loop-i in
    let heads = c.args.heads.now in
    sym (l.invariant ∙ twice-here (number_at heads) (length heads) l.i (omega arith) (after heads l.i _ c.has_number.ensures ∙ c.if-has_number.true))

pub loop-i-preserved : goal.loop-i-preserved
loop-i-preserved c = let l = c.loop-i in
    let heads = c.args.heads.now in
    l.invariant ∙ twice-later (number_at heads) (length heads) l.i (omega arith) (after heads l.i _ c.has_number.ensures ∙ c.if-has_number.false)

pub returns : goal.returns
returns c = let l = c.loop-i in
    let heads = c.args.heads.now in
    sym (l.invariant ∙ twice-nowhere (number_at heads) (length heads) l.i (omega arith))
