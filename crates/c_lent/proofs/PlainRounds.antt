-- Rounds in which each point stores its next word: those before i have, the others are as they were.
use mathlib.Core.Path.{◌≡◌, refl, sym, ap, ◌∙◌, subst}
use mathlib.Core.Logic.{◌≢◌, inl, inr}
use mathlib.Core.Bool.{true}
use mathlib.Core.List.{List, [], ◌∷◌}
use Prim.Native.Nat.{ℕ, suc, ◌+◌, ◌-◌, ◌≤◌, ◌<◌}
use native.Mathlib.Omega.{arith}
use native.Mathlib.Decide.{ℕ_discrete}
use lib.ListN.{length, get_or, set}
use lib.Seq.{get_or-set_same, get_or-set_other}
use Rattle.words.specs.Logic.{list_from}
use Rattle.points.specs.declared.Point.{Point}
use Rattle.points.specs.Serving.{Turned, in_turn}
use Rattle.c_lent.specs.Numbers.{PointLent, lend_point}
use Rattle.c_lent.specs.Serving.{CommonLent, ListedLent, listed_lent, point_as, turn_left, listed_at, kind_goes_on, step_turn_for}
use Rattle.points.specs.declared.serve.Due.{Due}
use Rattle.c_lent.specs.Batch.{ReadyAt, AllReady, Plain, one_on, NextWords, Lengths}
use Rattle.c_lent.proofs.InTurn.{Reached, reached-start, reached-next, reached-end}
use Rattle.c_lent.proofs.Turns.{listed_same, listed-other}
use Rattle.c_lent.proofs.ReadyAt.{good-next}
use Rattle.c_lent.proofs.Plain.{one_on_lem}

-- ---- a round of any kind

-- all that go on are ready after one more turn
pub round-good : (s s' : CommonLent) (heads tables texts answers : List (List ℕ)) (h t x a : List ℕ) (n i : ℕ) → Lengths n heads tables texts answers → i < n
    → AllReady s n (listed_at heads tables texts answers)
    → turn_left s' (listed_lent (point_as h t x) a) ≡ step_turn_for s (listed_at heads tables texts answers i)
    → AllReady s' n (listed_at (set heads i h) (set tables i t) (set texts i x) (set answers i a))
round-good s s' heads tables texts answers h t x a n i l d r e =
    good-next s s' n i (listed_at heads tables texts answers) (listed_at (set heads i h) (set tables i t) (set texts i x) (set answers i a)) r d
    (ap (turn_left s') (listed_same n heads tables texts answers h t x a i l d) ∙ e) (λ j q. listed-other heads tables texts answers h t x a i j q)

-- ---- one round

pub record Passed (c₀ : CommonLent) (f₀ : ℕ → ListedLent) (n i : ℕ) (c : CommonLent) (f : ℕ → ListedLent) : Type 0 where
  pub reached : Reached step_turn_for (in_turn step_turn_for c₀ (list_from 0 n f₀)) c i n f f
  pub done : (j : ℕ) → j < i → f j ≡ one_on (f₀ j)
  pub later : (j : ℕ) → i ≤ j → f j ≡ f₀ j
  pub ready : AllReady c n f

pub passed_start : (c : CommonLent) (f : ℕ → ListedLent) (n : ℕ) → AllReady c n f → Passed c f n 0 c f
passed_start c f n r = record { reached = reached-start step_turn_for c n f f; done = λ j l. absurd (omega arith); later = λ j l. refl; ready = r }

pub passed-next : {c₀ c : CommonLent} {f₀ f : ℕ → ListedLent} {n i : ℕ} → Passed c₀ f₀ n i c f → i < n → (c' : CommonLent) (f' : ℕ → ListedLent)
    → turn_left c' (one_on (f i)) ≡ step_turn_for c (f i) → f' i ≡ one_on (f i) → ((j : ℕ) → j ≢ i → f' j ≡ f j) → Passed c₀ f₀ n (i + 1) c' f'
passed-next {c₀} {c} {f₀} {f} {n} {i} p l c' f' e own others =
    let one : suc i ≡ i + 1 = omega arith in
    record {
      reached = subst (λ (k : ℕ). Reached step_turn_for (in_turn step_turn_for c₀ (list_from 0 n f₀)) c' k n f' f') one
          (reached-next step_turn_for _ c c' i n f f' f f' l p.reached (ap (λ (z : Turned CommonLent ListedLent). z.common) e)
          (own ∙ ap (λ (z : Turned CommonLent ListedLent). z.own) e)
          (λ j y. others j (λ q. absurd (omega arith))) (λ j y. others j (λ q. absurd (omega arith))));
      done = λ j k. at j k (ℕ_discrete j i);
      later = λ j k. others j (λ q. absurd (omega arith)) ∙ p.later j (omega arith);
      ready = good-next c c' n i f f' p.ready l (ap (turn_left c') own ∙ e) others;
    }
  where
    at : (j : ℕ) → j < i + 1 → Dec (j ≡ i) → f' j ≡ one_on (f₀ j)
    at j k (yes q) = subst (λ (m : ℕ). f' m ≡ one_on (f₀ m)) (sym q) (own ∙ ap one_on (p.later i (omega arith)))
    at j k (no q) = others j q ∙ p.done j (omega arith)

-- heads and answers alone are changed
pub kept-other : (heads tables texts answers : List (List ℕ)) (h a : List ℕ) (i j : ℕ) → j ≢ i
    → listed_at (set heads i h) tables texts (set answers i a) j ≡ listed_at heads tables texts answers j
kept-other heads tables texts answers h a i j d = rw (get_or-set_other heads i j h [] d, get_or-set_other answers i j a [] d)

pub kept_same : (heads tables texts answers : List (List ℕ)) (h a : List ℕ) (i : ℕ) → i < length heads → i < length answers
    → listed_at (set heads i h) tables texts (set answers i a) i ≡ listed_lent (point_as h (get_or tables i []) (get_or texts i [])) a
kept_same heads tables texts answers h a i l m = rw (get_or-set_same heads i h [] l, get_or-set_same answers i a [] m)

-- all have
pub passed-end : {c₀ c : CommonLent} {f₀ f : ℕ → ListedLent} {n i : ℕ} → Passed c₀ f₀ n i c f → n ≤ i → i ≤ n
    → (turn_left c (list_from 0 n f) ≡ in_turn step_turn_for c₀ (list_from 0 n f₀)) × ((j : ℕ) → j < n → f j ≡ one_on (f₀ j)) × AllReady c n f
passed-end {c₀} {c} {f₀} {f} {n} {i} p l m =
    (sym (reached-end step_turn_for _ c i n f f l m p.reached), λ j k. p.done j (omega arith), p.ready)

-- ---- more of them

next-own : (m : ℕ) (row : Due) (a : List ℕ) (p : Point) → 0 < m → kind_goes_on (get_or a 0 0) ≡ true → NextWords m row (listed_lent (lend_point p) a)
    → NextWords (m - 1) row (one_on (listed_lent (lend_point p) a))
next-own m row a p l g w =
    let k = p.head.write.position in
    subst (NextWords (m - 1) row) (sym (one_on_lem (lend_point p) a g)) (record {
      plain = go w.plain;
      row_is = λ e j d. let q : k + (j + 1) ≡ k + 1 + j = omega arith in rw q at (w.row_is e (j + 1) (omega arith));
    })
  where
    k' : ℕ
    k' = p.head.write.position + 1

    go : Plain m (listed_lent (lend_point p) a)
        → Plain (m - 1) (listed_lent (point_as (set (lend_point p).head 8 (p.head.write.position + 1)) p.table p.text) (1 ∷ 0 ∷ []))
    go (inl f) = let near = f.1 in let far = f.2 in inl (f.0, omega arith, omega arith)
    go (inr z) = let near = z.1 in inr (z.0, omega arith)

-- one word fewer is left
pub next-fewer : {c : CommonLent} {x : ListedLent} → ReadyAt c x → (m : ℕ) (row : Due) → 0 < m → kind_goes_on (get_or x.answer 0 0) ≡ true
    → NextWords m row x → NextWords (m - 1) row (one_on x)
next-fewer {c} {x} r m row l g =
    subst (λ (y : PointLent). NextWords m row (listed_lent y x.answer) → NextWords (m - 1) row (one_on (listed_lent y x.answer))) (sym r.is)
    (next-own m row x.answer r.point l g)

pub next_one : (m : ℕ) (row : Due) (x : ListedLent) → 0 < m → NextWords m row x → NextWords 1 row x
next_one m row x l w = record { plain = go w.plain; row_is = λ e j d. w.row_is e j (omega arith) }
  where
    go : Plain m x → Plain 1 x
    go (inl f) = let near = f.1 in let far = f.2 in inl (f.0, omega arith, omega arith)
    go (inr z) = let near = z.1 in inr (z.0, omega arith)
