-- Turns of the serving call, in numbers: a point's own, and those of a list one after the other.
use mathlib.Core.Path.{◌≡◌, refl, sym, ap, ◌∙◌, subst}
use mathlib.Core.Bool.{Bool, true, false}
use mathlib.Core.List.{List, [], ◌∷◌}
use mathlib.Core.Logic.{◌≢◌}
use Prim.Native.Nat.{ℕ, zero, suc, ◌+◌, ◌-◌, ◌≤◌, ◌<◌}
use native.Mathlib.Omega.{arith}
use lib.ListN.{get_or, set, take, drop, length-set}
use native.Mathlib.Decide.{dec_lt}
use lib.Dec.{eqb}
use borrow.Author.Tests.{eq-eqb, ne_eqb}
use lib.Seq.{get_or-set_same, get_or-set_other}
use Rattle.words.proofs.Choice.{choose-true, choose-false}
use Rattle.words.proofs.Logic.{or_left, or_right}
use Rattle.words.specs.Logic.{list_from, some_of}
use Rattle.points.specs.Serving.{Turned, in_turn, rounds}
use Rattle.c_lent.specs.Batch.{Lengths}
use Rattle.c_lent.proofs.InTurn.{Reached, reached-next}
use Rattle.c_lent.specs.Numbers.{SharedLent, PointLent, is_known}
use Rattle.c_lent.specs.Calls.{PointLeft, StepLeft, begin_for, step_for, if_known}
use Rattle.c_lent.specs.Serving.{CommonLent, ListedLent, common_lent, listed_lent, turn_left, kind_goes_on, step_turn_for, point_as, listed_at}
use Rattle.c_lent.specs.Serving.{asking_lent, begun_answer, begin_turn_for, offset_at, size_at, start_at, asking_at}

-- ---- a point's turn

-- what a step leaves but the lent bytes, as a turn
abbrev step_turned : StepLeft → Turned CommonLent ListedLent
step_turned l = turn_left (common_lent l.image l.shared) (listed_lent l.point (l.answer.kind ∷ l.answer.value ∷ []))

-- the lent bytes have no say in it
unlent : (words : List ℕ) (s : SharedLent) (p : PointLent) (lent : List ℕ) → step_turned (step_for words s p lent) ≡ step_turned (step_for words s p [])
unfolding if_known
unlent words s p lent = go (is_known p.head) refl
  where
    go : (b : Bool) → is_known p.head ≡ b → step_turned (step_for words s p lent) ≡ step_turned (step_for words s p [])
    go true e = ap step_turned (choose-true (is_known p.head) _ _ e) ∙ sym (ap step_turned (choose-true (is_known p.head) _ _ e))
    go false e = ap step_turned (choose-false (is_known p.head) _ _ e) ∙ sym (ap step_turned (choose-false (is_known p.head) _ _ e))

module _ (words : List ℕ) (s : SharedLent) (p : PointLent) (answer : List ℕ) where
  -- one whose write goes on makes a step
  pub turn_on : kind_goes_on (get_or answer 0 0) ≡ true → (l : StepLeft) (lent : List ℕ) → l ≡ step_for words s p lent
      → step_turned l ≡ step_turn_for (common_lent words s) (listed_lent p answer)
  unfolding step_turn_for
  turn_on e l lent same = ap step_turned same ∙ unlent words s p lent ∙ sym (choose-true (kind_goes_on (get_or answer 0 0)) _ _ e)

  -- another does nothing
  pub turn-off : kind_goes_on (get_or answer 0 0) ≡ false → turn_left (common_lent words s) (listed_lent p answer)
      ≡ step_turn_for (common_lent words s) (listed_lent p answer)
  unfolding step_turn_for
  turn-off e = sym (choose-false (kind_goes_on (get_or answer 0 0)) _ _ e)

-- ---- the lists that are lent

-- one point's record and answer changed: no other's is
pub listed-other : (heads tables texts answers : List (List ℕ)) (h t x a : List ℕ) (i j : ℕ) → j ≢ i
    → listed_at (set heads i h) (set tables i t) (set texts i x) (set answers i a) j ≡ listed_at heads tables texts answers j
listed-other heads tables texts answers h t x a i j d =
    rw (get_or-set_other heads i j h [] d, get_or-set_other tables i j t [] d, get_or-set_other texts i j x [] d, get_or-set_other answers i j a [] d)

-- its own is what it is changed to
pub listed_same : (n : ℕ) (heads tables texts answers : List (List ℕ)) (h t x a : List ℕ) (i : ℕ) → Lengths n heads tables texts answers → i < n
    → listed_at (set heads i h) (set tables i t) (set texts i x) (set answers i a) i ≡ listed_lent (point_as h t x) a
listed_same n heads tables texts answers h t x a i l d =
    rw (
      get_or-set_same heads i h [] (omega arith),
      get_or-set_same tables i t [] (omega arith),
      get_or-set_same texts i x [] (omega arith),
      get_or-set_same answers i a [] (omega arith),
    )

pub lengths-set : (n : ℕ) (heads tables texts answers : List (List ℕ)) (h t x a : List ℕ) (i : ℕ) → Lengths n heads tables texts answers
    → Lengths n (set heads i h) (set tables i t) (set texts i x) (set answers i a)
lengths-set n heads tables texts answers h t x a i l =
    (length-set heads i h ∙ l.0, length-set tables i t ∙ l.1, length-set texts i x ∙ l.2, length-set answers i a ∙ l.3)

-- ---- a round

-- one point more has had its turn
pub round-next : (r : Turned CommonLent (List ListedLent)) (s s' : CommonLent) (heads tables texts answers : List (List ℕ)) (h t x a : List ℕ) (n i : ℕ)
    → Lengths n heads tables texts answers → i < n
    → Reached step_turn_for r s i n (listed_at heads tables texts answers) (listed_at heads tables texts answers)
    → turn_left s' (listed_lent (point_as h t x) a) ≡ step_turn_for s (listed_at heads tables texts answers i)
    → let f = listed_at (set heads i h) (set tables i t) (set texts i x) (set answers i a) in Reached step_turn_for r s' (i + 1) n f f
round-next r s s' heads tables texts answers h t x a n i l d so e =
    let f = listed_at heads tables texts answers in
    let f' = listed_at (set heads i h) (set tables i t) (set texts i x) (set answers i a) in
    let one : suc i ≡ i + 1 = omega arith in
    subst (λ (k : ℕ). Reached step_turn_for r s' k n f' f') one (reached-next step_turn_for r s s' i n f f' f f' d so (ap (λ (z : Turned CommonLent ListedLent). z.common) e)
    (listed_same n heads tables texts answers h t x a i l d ∙ ap (λ (z : Turned CommonLent ListedLent). z.own) e)
    (λ j y. listed-other heads tables texts answers h t x a i j (λ q. absurd (omega arith)))
    (λ j y. listed-other heads tables texts answers h t x a i j (λ q. absurd (omega arith))))

-- ---- beginnings

-- the answer of a beginning that is refused
pub refused-answer : (n : ℕ) → (n ≡ 0 → ⊥) → 5 ∷ n ∷ [] ≡ begun_answer n
refused-answer zero h = absurd (h refl)
refused-answer (suc n) h = refl

-- a point's beginning
pub turn-begun : (words : List ℕ) (s : SharedLent) (p : PointLent) (offset : ℕ) (text : List ℕ) (l : PointLeft) (answer : List ℕ)
    → l ≡ begin_for words s p offset text → answer ≡ begun_answer l.refused
    → turn_left (common_lent words l.shared) (listed_lent l.point answer) ≡ begin_turn_for (common_lent words s) (asking_lent p offset text)
unfolding begin_turn_for
turn-begun words s p offset text l answer e a =
    rw a (ap (λ (b : PointLeft). turn_left (common_lent words b.shared) (listed_lent b.point (begun_answer b.refused))) e)

up_one : (writes : List (List ℕ)) (i n : ℕ) → i < suc n → (i < n → start_at writes i + size_at writes i ≤ start_at writes n)
    → start_at writes i + size_at writes i ≤ start_at writes n + size_at writes n
up_one writes i n h up = go (dec_lt i n)
  where
    go : Dec (i < n) → start_at writes i + size_at writes i ≤ start_at writes n + size_at writes n
    go (yes l) = let x = up l in omega arith
    go (no l) = let e : i ≡ n = omega arith in rw e (omega arith)

-- texts come one after the other
pub starts-up : (writes : List (List ℕ)) (i n : ℕ) → i < n → start_at writes i + size_at writes i ≤ start_at writes n
starts-up writes i zero h = absurd (omega arith)
starts-up writes i (suc n) h = up_one writes i n h (starts-up writes i n)

pub start-next : (writes : List (List ℕ)) (i start : ℕ) → start ≡ start_at writes i → start + size_at writes i ≡ start_at writes (i + 1)
start-next writes i start e = let one : i + 1 ≡ suc i = omega arith in rw (one, e)

pub text-part : (writes : List (List ℕ)) (bytes : List ℕ) (i start : ℕ) → start ≡ start_at writes i
    → take (start + size_at writes i - start) (drop start bytes) ≡ take (size_at writes i) (drop (start_at writes i) bytes)
text-part writes bytes i start e = let d : start + size_at writes i - start ≡ size_at writes i = omega arith in rw (d, e)

-- nothing is left of so many bytes just where the texts have them all
pub none_left : (left total bytes : ℕ) → left + total ≡ bytes → eqb left 0 ≡ eqb total bytes
none_left zero total bytes e = sym (eq-eqb total bytes (omega arith))
none_left (suc left) total bytes e = ne_eqb (suc left) 0 (λ x. omega arith) ∙ sym (ne_eqb total bytes (λ x. omega arith))

-- one more is begun
pub begin-next : (r : Turned CommonLent (List ListedLent)) (s s' : CommonLent) (heads tables texts answers writes : List (List ℕ)) (bytes h t x a : List ℕ)
    (n i offset : ℕ) (text : List ℕ)
    → Lengths n heads tables texts answers → i < n → offset ≡ offset_at writes i → text ≡ take (size_at writes i) (drop (start_at writes i) bytes)
    → Reached begin_turn_for r s i n (asking_at heads tables texts writes bytes) (listed_at heads tables texts answers)
    → turn_left s' (listed_lent (point_as h t x) a)
    ≡ begin_turn_for s (asking_lent (point_as (get_or heads i []) (get_or tables i []) (get_or texts i [])) offset text)
    → Reached begin_turn_for r s' (i + 1) n (asking_at (set heads i h) (set tables i t) (set texts i x) writes bytes)
    (listed_at (set heads i h) (set tables i t) (set texts i x) (set answers i a))
begin-next r s s' heads tables texts answers writes bytes h t x a n i offset text l d eo et so e =
    let f = asking_at heads tables texts writes bytes in
    let f' = asking_at (set heads i h) (set tables i t) (set texts i x) writes bytes in
    let g = listed_at heads tables texts answers in
    let g' = listed_at (set heads i h) (set tables i t) (set texts i x) (set answers i a) in
    let one : suc i ≡ i + 1 = omega arith in
    let e' : turn_left s' (listed_lent (point_as h t x) a) ≡ begin_turn_for s (f i) = rw (eo, et) at e in
    subst (λ (k : ℕ). Reached begin_turn_for r s' k n f' g') one (reached-next begin_turn_for r s s' i n f f' g g' d so
    (ap (λ (z : Turned CommonLent ListedLent). z.common) e')
    (listed_same n heads tables texts answers h t x a i l d ∙ ap (λ (z : Turned CommonLent ListedLent). z.own) e')
    (λ j y. listed-other heads tables texts answers h t x a i j (λ q. absurd (omega arith)))
    (λ j y. asking-other heads tables texts writes bytes h t x i j (λ q. absurd (omega arith))))
  where
    asking-other : (heads tables texts writes : List (List ℕ)) (bytes h t x : List ℕ) (i j : ℕ) → j ≢ i
        → asking_at (set heads i h) (set tables i t) (set texts i x) writes bytes j ≡ asking_at heads tables texts writes bytes j
    asking-other heads tables texts writes bytes h t x i j d =
        rw (get_or-set_other heads i j h [] d, get_or-set_other tables i j t [] d, get_or-set_other texts i j x [] d)

-- ---- rounds

-- one round is over
pub rounds-next : (k : ℕ) (s s' : CommonLent) (xs xs' : List ListedLent) → 0 < k → turn_left s' xs' ≡ in_turn step_turn_for s xs
    → rounds k step_turn_for s xs ≡ rounds (k - 1) step_turn_for s' xs'
unfolding rounds
rounds-next zero s s' xs xs' h e = absurd (omega arith)
rounds-next (suc k) s s' xs xs' h e =
    let d : suc k - 1 ≡ k = omega arith in
    rw d (sym (ap (λ (r : Turned CommonLent (List ListedLent)). rounds k step_turn_for r.common r.own) e))

-- all are over
pub rounds-over : (k : ℕ) (s : CommonLent) (xs : List ListedLent) → k ≤ 0 → turn_left s xs ≡ rounds k step_turn_for s xs
unfolding rounds
rounds-over zero s xs h = refl
rounds-over (suc k) s xs h = absurd (omega arith)

-- a round in which nobody's write goes on changes nothing
idle-round : (s : CommonLent) (i n : ℕ) (f : ℕ → ListedLent) → some_of kind_goes_on (list_from i n (λ j. get_or (f j).answer 0 0)) ≡ false
    → in_turn step_turn_for s (list_from i n f) ≡ turn_left s (list_from i n f)
unfolding in_turn step_turn_for
idle-round s i zero f e = refl
idle-round s i (suc n) f e =
    let here = or_left (kind_goes_on (get_or (f i).answer 0 0)) _ e in
    let rest = idle-round s (suc i) n f (or_right (kind_goes_on (get_or (f i).answer 0 0)) _ e) in
    ap (λ (t : Turned CommonLent ListedLent). next t) (choose-false (kind_goes_on (get_or (f i).answer 0 0)) _ _ here)
    ∙ ap (λ (r : Turned CommonLent (List ListedLent)). turn_left r.common (f i ∷ r.own)) rest
  where
    next : Turned CommonLent ListedLent → Turned CommonLent (List ListedLent)
    next t = let r = in_turn step_turn_for t.common (list_from (suc i) n f) in turn_left r.common (t.own ∷ r.own)

-- nor do more of them
pub rounds-idle : (k : ℕ) (s : CommonLent) (n : ℕ) (f : ℕ → ListedLent) → some_of kind_goes_on (list_from 0 n (λ j. get_or (f j).answer 0 0)) ≡ false
    → turn_left s (list_from 0 n f) ≡ rounds k step_turn_for s (list_from 0 n f)
unfolding rounds
rounds-idle zero s n f e = refl
rounds-idle (suc k) s n f e =
    rounds-idle k s n f e ∙ sym (ap (λ (r : Turned CommonLent (List ListedLent)). rounds k step_turn_for r.common r.own) (idle-round s 0 n f e))
