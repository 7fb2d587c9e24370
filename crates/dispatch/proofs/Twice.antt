-- Whether a point is listed twice: whether the number of one stands among those after it.
use mathlib.Core.Path.{◌≡◌, refl, sym, ap, ◌∙◌}
use mathlib.Core.Bool.{Bool, ◌||◌}
use mathlib.Core.List.{List, [], ◌∷◌}
use Prim.Native.Nat.{ℕ, suc, ◌+◌, ◌-◌, ◌≤◌, ◌<◌}
use native.Mathlib.Omega.{arith}
use lib.ListN.{length, length-drop, get_or, take, drop}
use lib.Dec.{eqb}
use lib.Seq.{drop-cons, take_all}
use borrow.Author.Tests.{eq-eqb, eqb-true}
use Rattle.std.specs.List.{list_any}
use Rattle.words.specs.Logic.{member}
use Rattle.words.proofs.Logic.{agree}
use Rattle.points.specs.declared.Point.{Point}
use Rattle.points.specs.Serving.{twice, point_numbers}

-- a number stands among those of some points
pub member-is : (n : ℕ) (ps : List Point) → list_any (λ (p : Point). eqb p.head.number n) ps ≡ member n (point_numbers ps)
member-is n [] = refl
member-is n (p ∷ ps) =
    ap (λ (b : Bool). b || list_any (λ (q : Point). eqb q.head.number n) ps)
    (agree (eqb p.head.number n) (eqb n p.head.number) (λ e. eq-eqb n p.head.number (sym (eqb-true p.head.number n e)))
    (λ e. eq-eqb p.head.number n (sym (eqb-true n p.head.number e))))
    ∙ ap (λ (b : Bool). eqb n p.head.number || b) (member-is n ps)

-- one point on, of number n
pub twice-next : (ps : List Point) (i n : ℕ) (d : Point) → i < length ps → n ≡ (get_or ps i d).head.number
    → twice (point_numbers (drop i ps))
    ≡ list_any (λ (p : Point). eqb p.head.number n) (take (length ps - (i + 1)) (drop (i + 1) ps)) || twice (point_numbers (drop (i + 1) ps))
twice-next ps i n d h e =
    let one : i + 1 ≡ suc i = omega arith in
    let long = length-drop (i + 1) ps in
    let few : length (drop (i + 1) ps) ≤ length ps - (i + 1) = omega (arith, long) in
    rw (take_all (length ps - (i + 1)) (drop (i + 1) ps) few, one, e)
    (ap (λ (l : List Point). twice (point_numbers l)) (drop-cons ps i d h)
    ∙ ap (λ (b : Bool). b || twice (point_numbers (drop (suc i) ps))) (sym (member-is (get_or ps i d).head.number (drop (suc i) ps))))
