-- Some of the rounds are over, however many at once. Assumes nothing.
use mathlib.Core.Path.{◌≡◌, sym, ap}
use mathlib.Core.List.{List}
use Prim.Native.Nat.{ℕ, zero, suc, ◌-◌, ◌≤◌}
use native.Mathlib.Omega.{arith}
use Rattle.points.specs.Serving.{Turned, in_turn, rounds}
use Rattle.c_lent.specs.Serving.{CommonLent, ListedLent, turn_left, step_turn_for}

pub rounds-more : (k m : ℕ) (s s' : CommonLent) (xs xs' : List ListedLent) → m ≤ k → turn_left s' xs' ≡ rounds m step_turn_for s xs
    → rounds k step_turn_for s xs ≡ rounds (k - m) step_turn_for s' xs'
unfolding rounds
rounds-more k zero s s' xs xs' l e =
    let d : k - 0 ≡ k = omega arith in
    rw d (sym (ap (λ (r : Turned CommonLent (List ListedLent)). rounds k step_turn_for r.common r.own) e))
rounds-more zero (suc m) s s' xs xs' l e = absurd (omega arith)
rounds-more (suc k) (suc m) s s' xs xs' l e =
    let d : suc k - suc m ≡ k - m = omega arith in
    let r = in_turn step_turn_for s xs in
    rw d (rounds-more k m r.common s' r.own xs' (omega arith) e)
