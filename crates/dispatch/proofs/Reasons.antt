-- 26 and 27, what is lent where neither holds, and what the call comes to.
use mathlib.Core.Path.{◌≡◌, refl, sym, ap, subst, ◌∙◌}
use mathlib.Core.Bool.{Bool, true, false}
use mathlib.Core.List.{List, [], ◌∷◌}
use mathlib.Core.Logic.{◌⊎◌, inl, inr}
use Prim.Native.Nat.{ℕ, suc, ◌≤◌, ◌<◌}
use native.Mathlib.Omega.{arith}
use lib.ListN.{length}
use borrow.Author.Tests.{le-leb, lt-leb, eq-eqb, eqb-true}
use Rattle.words.specs.Edition.{one}
use Rattle.words.proofs.Logic.{every-all}
use Rattle.words.proofs.Choice.{choose-true, choose-false, chosen-zero, chosen-suc}
use Rattle.block_log.specs.declared.Shared.{Shared}
use Rattle.block_log.specs.Refusals.{Done, Refused as Stopped}
use Rattle.points.specs.declared.Point.{Point}
use Rattle.points.specs.Serving.{Turned, Common, Listed, begin_turn, step_turn, in_turn, rounds, row, asking, serve_rounds, twice, serve_refusal, point_numbers}
use Rattle.points.specs.Serving.{Service, serving}
use Rattle.dispatch.specs.Dispatch.{requests_of, lent_for_each, answers_after, DispatchLeft, dispatch_left, dispatched}
use Rattle.dispatch.specs.Turns.{common, Lent, Leaves}
use Rattle.dispatch.proofs.Lent.{requests-are}

pub numbers-are : (ys : List Point) → length (point_numbers ys) ≡ length ys
numbers-are [] = refl
numbers-are (y ∷ ys) = ap suc (numbers-are ys)

-- ---- by how many points and writes there are

module _ (numbers : List ℕ) (writes : ℕ) where
  pub too_few : length numbers < 1 → serve_refusal numbers writes ≡ 26
  unfolding serve_refusal
  too_few h = rw (lt-leb 1 (length numbers) h)

  pub too_many : 32 < length numbers → serve_refusal numbers writes ≡ 26
  unfolding serve_refusal
  too_many h = rw (le-leb 1 (length numbers) (omega arith), lt-leb (length numbers) 32 h)

  module _ (least : 1 ≤ length numbers) (most : length numbers ≤ 32) (e : writes ≡ length numbers) where
    pub listed-twice : twice numbers ≡ true → serve_refusal numbers writes ≡ 27
    unfolding serve_refusal
    listed-twice t = rw (le-leb 1 (length numbers) least, le-leb (length numbers) 32 most, eq-eqb writes (length numbers) e, t)

    pub no_reason : twice numbers ≡ false → serve_refusal numbers writes ≡ 0
    unfolding serve_refusal
    no_reason t = rw (le-leb 1 (length numbers) least, le-leb (length numbers) 32 most, eq-eqb writes (length numbers) e, t)

-- ---- what is lent

pub is-lent : (ps : List Point) (answers writes : List (List ℕ)) (bytes : List ℕ) → lent_for_each (length ps) (length answers) writes (length bytes) ≡ true
    → Lent ps answers writes bytes
unfolding lent_for_each
is-lent ps answers writes bytes e =
    let ts = every-all _ e in
    record { answers_are = eqb-true _ _ ts.0; writes_are = eqb-true _ _ ts.1.0; bytes_are = eqb-true _ _ ts.1.1.0 }

-- ---- what the call comes to

module _ (xs : List ℕ) (s : Shared) (ys : List Point) (before writes : List (List ℕ)) (bytes : List ℕ) where
  abbrev why_not : ℕ
  why_not = serve_refusal (point_numbers ys) (length (requests_of writes bytes))

  abbrev served-by : Service → DispatchLeft
  served-by v = dispatch_left v.reply v.common.words v.common.shared v.points (answers_after v.reply before v.lasts)

  abbrev lent : Bool
  lent = lent_for_each (length ys) (length before) writes (length bytes)

  when-lent : lent ≡ true → dispatched xs s ys before writes bytes ≡ served-by (serving one xs s ys (requests_of writes bytes))
  unfolding dispatched
  when-lent e = choose-true lent _ _ e

  refuses : (k : ℕ) → lent ≡ true → why_not ≡ suc k → dispatch_left (Stopped (suc k)) xs s ys before ≡ dispatched xs s ys before writes bytes
  unfolding serving
  refuses k l e = sym (when-lent l ∙ ap served-by (chosen-suc why_not k _ _ e))

  -- 26 by what is lent
  pub not-each : lent ≡ false → dispatch_left (Stopped 26) xs s ys before ≡ dispatched xs s ys before writes bytes
  unfolding dispatched
  not-each e = sym (choose-false lent _ _ e)

  -- 26 by the number of points
  pub not-one-each : (length ys < 1) ⊎ (32 < length ys) → dispatch_left (Stopped 26) xs s ys before ≡ dispatched xs s ys before writes bytes
  not-one-each h = by_lent lent refl
    where
      because : (length ys < 1) ⊎ (32 < length ys) → why_not ≡ 26
      because (inl g) = let k = numbers-are ys in too_few (point_numbers ys) _ (omega (arith, k, g))
      because (inr g) = let k = numbers-are ys in too_many (point_numbers ys) _ (omega (arith, k, g))

      by_lent : (b : Bool) → lent ≡ b → dispatch_left (Stopped 26) xs s ys before ≡ dispatched xs s ys before writes bytes
      by_lent true l = refuses 25 l (because h)
      by_lent false l = not-each l

  module _ (least : 1 ≤ length ys) (most : length ys ≤ 32) (l : lent ≡ true) where
    -- by whether a number stands twice
    reason-is : (k : ℕ) → (1 ≤ length (point_numbers ys) → length (point_numbers ys) ≤ 32
        → length (requests_of writes bytes) ≡ length (point_numbers ys) → why_not ≡ k) → why_not ≡ k
    reason-is k h =
        let n = numbers-are ys in
        h (omega (arith, n, least)) (omega (arith, n, most)) (requests-are writes bytes ∙ (is-lent ys before writes bytes l).writes_are ∙ sym n)

    -- 27
    pub listed-again : twice (point_numbers ys) ≡ true → dispatch_left (Stopped 27) xs s ys before ≡ dispatched xs s ys before writes bytes
    listed-again t = refuses 26 l (reason-is 27 (λ p q r. listed-twice _ _ p q r t))

    -- what the row of beginnings and rounds leaves
    pub served : twice (point_numbers ys) ≡ false → (now : Shared) (k : ℕ) (later : List ℕ) (left : Shared) (zs : List Point) (answers : List (List ℕ))
        → let b = in_turn (begin_turn one) (common xs s) (asking ys (requests_of writes bytes)) in
        b.common ≡ common xs now → k ≡ serve_rounds one (length ys) → Leaves (rounds k (step_turn one) (common xs now) b.own) later left zs answers
        → dispatch_left Done later left zs answers ≡ dispatched xs s ys before writes bytes
    unfolding serving row
    served t now k later left zs answers e n v =
        let b = in_turn (begin_turn one) (common xs s) (asking ys (requests_of writes bytes)) in
        let r = row (begin_turn one) (step_turn one) (serve_rounds one (length ys)) (common xs s) (asking ys (requests_of writes bytes)) in
        let v' = subst (λ (w : Turned Common (List Listed)). Leaves w later left zs answers)
        (λ i. rounds (n i) (step_turn one) (sym e i) b.own) v in
        (λ i. dispatch_left Done ((sym v'.common_is i).words) ((sym v'.common_is i).shared) (v'.shows.points_are i) (v'.shows.answers_are i))
        ∙ sym (when-lent l ∙ ap served-by (chosen-zero why_not _ _ (reason-is 0 (λ p q o. no_reason _ _ p q o t))))
