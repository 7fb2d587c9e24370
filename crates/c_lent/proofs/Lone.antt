-- A list of one point that fills its run: m rounds are its next m words, and nothing else. Assumes nothing.
use mathlib.Core.Path.{◌≡◌, refl, sym, ap, ◌∙◌, subst}
use mathlib.Core.Logic.{inl, inr}
use mathlib.Core.Bool.{true}
use mathlib.Core.List.{List, [], ◌∷◌}
use Prim.Native.Nat.{ℕ, zero, suc, ◌+◌, ◌≤◌, ◌<◌}
use native.Mathlib.Omega.{arith}
use lib.ListN.{length, get_or, set, length-set}
use Rattle.words.specs.Edition.{one}
use Rattle.points.specs.declared.Phase.TheVariants.{Filling}
use Rattle.points.specs.declared.Write.{Write}
use Rattle.points.specs.declared.Head.{Head}
use Rattle.points.specs.declared.Point.{Point}
use Rattle.points.specs.Record.{phase_number, phase_of, run_words, with_head, writing}
use Rattle.points.specs.Stepping.{filled}
use Rattle.points.specs.Serving.{in_turn, rounds}
use Rattle.points.specs.Batch.{filled_at, filled_on, moved_on, InOneBlock}
use Rattle.points.proofs.Ready.{Ready, ready-text}
use Rattle.points.specs.Lent.{TextFits}
use Rattle.points.proofs.Rows.{filled-same}
use Rattle.points.proofs.Turns.{fill-turn, fill-ready}
use Rattle.c_lent.specs.Numbers.{head_numbers, head_from, is_known, SharedLent, PointLent, shared_in, lend_point}
use Rattle.c_lent.specs.Serving.{ListedLent, common_lent, listed_lent, listed, listed_at, point_as, turn_left, kind_goes_on, step_turn_for}
use Rattle.c_lent.specs.Batch.{ReadyAt, AllReady, Lengths, Fills, PlainAt, FillsAlone}
use Rattle.c_lent.proofs.Heads.{phase-back, head-back}
use Rattle.c_lent.proofs.Known.{Few}
use Rattle.c_lent.proofs.Plain.{shared_same}
use Rattle.c_lent.proofs.PlainRounds.{kept_same}
use Rattle.c_lent.proofs.ReadyAt.{outcome_turn, is-ready, is_known_lem, ready-turn}

-- what such a point is answered after m rounds
abbrev answer_on : ℕ → List ℕ → List ℕ
answer_on zero a = a
answer_on (suc m) a = 1 ∷ 0 ∷ []

answer-on : (m : ℕ) → answer_on m (1 ∷ 0 ∷ []) ≡ 1 ∷ 0 ∷ []
answer-on zero = refl
answer-on (suc m) = refl

-- a ready record with m words left to fill
pub record Lone (m : ℕ) (words : List ℕ) (s : SharedLent) (p : Point) : Type 0 where
  pub ready : Ready one words (shared_in s) p
  pub few : Few p.head
  pub numbers : 3 ≤ length s.numbers
  pub filling : p.head.write.phase ≡ Filling
  pub left : m + p.head.write.position ≤ run_words one p.head.write

abbrev pub lone-ready : {m : ℕ} {words : List ℕ} {s : SharedLent} {p : Point} → Lone m words s p → (a : List ℕ)
    → ReadyAt (common_lent words s) (listed_lent (lend_point p) a)
lone-ready {m} {words} {s} {p} l a =
    record { point = p; is = refl; few = l.few; numbers = l.numbers; unrefused = l.ready.unrefused; unread = l.ready.unread }

-- its next word
module _ {m : ℕ} {words : List ℕ} {s : SharedLent} {p : Point} (l : Lone (suc m) words s p) where
  abbrev w : Write
  w = p.head.write

  some_left : w.position < run_words one w
  some_left = let k = l.left in omega arith

  abbrev next : Point
  next = with_head p (writing p.head (filled w w.position))

  abbrev stored : List ℕ
  stored = filled_at one p.head p.table p.text w.position words

  lone-next : Lone m stored s next
  lone-next =
      let k = l.left in
      record { ready = fill-ready l.ready l.filling some_left; few = l.few; numbers = l.numbers; filling = l.filling; left = omega arith }

  lone-turn : (a : List ℕ) → kind_goes_on (get_or a 0 0) ≡ true
      → step_turn_for (common_lent words s) (listed_lent (lend_point p) a) ≡ turn_left (common_lent stored s) (listed_lent (lend_point next) (1 ∷ 0 ∷ []))
  lone-turn a g =
      ready-turn (lone-ready l a) g ∙ ap (outcome_turn words) (fill-turn l.ready l.filling some_left)
      ∙ ap (λ (t : SharedLent). turn_left (common_lent stored t) (listed_lent (lend_point next) (1 ∷ 0 ∷ [])))
      (shared_same s p l.numbers)

-- its next m words
pub lone-rounds : (m : ℕ) {words : List ℕ} {s : SharedLent} {p : Point} (a : List ℕ) → kind_goes_on (get_or a 0 0) ≡ true → Lone m words s p
    → let left = filled_on one p.head p.table p.text p.head.write.position m words in
    (rounds m step_turn_for (common_lent words s) (listed_lent (lend_point p) a ∷ [])
    ≡ turn_left (common_lent left s) (listed_lent (lend_point (moved_on m p)) (answer_on m a) ∷ []))
    × Ready one left (shared_in s) (moved_on m p)
unfolding rounds in_turn filled_on
lone-rounds zero {words} {s} {p} a g l =
    let z : 0 + p.head.write.position ≡ p.head.write.position = omega arith in
    (rw z, rw z l.ready)
lone-rounds (suc m) {words} {s} {p} a g l =
    let k = p.head.write.position in
    let far : m + suc k ≡ suc m + k = omega arith in
    let rest = lone-rounds m (1 ∷ 0 ∷ []) refl (lone-next l) in
    let same = filled-same one p.head p.table p.text (suc k) m (stored l) p.head.write.phase (suc k) p.head.write.zeroing p.head.write.retries in
    (rw (lone-turn l a g) (rest.0 ∙ rw (far, same, answer-on m)), rw (far, same) at rest.1)

-- ---- in the lists that are lent

answer-some : (m : ℕ) (a : List ℕ) → 0 < m → answer_on m a ≡ 1 ∷ 0 ∷ []
answer-some zero a l = absurd (omega arith)
answer-some (suc m) a l = refl

-- a record's numbers with the position moved on; and the words that it fills
moved-lent : (m : ℕ) (p : Point) (q : PointLent) → q ≡ lend_point p
    → point_as (set q.head 8 (get_or q.head 8 0 + m)) q.table q.text ≡ lend_point (moved_on m p)
moved-lent m p q e =
    let k = p.head.write.position in
    let swap : k + m ≡ m + k = omega arith in
    subst (λ (x : PointLent). point_as (set x.head 8 (get_or x.head 8 0 + m)) x.table x.text ≡ lend_point (moved_on m p)) (sym e) (rw swap)

filled-lent : (m : ℕ) (words : List ℕ) (p : Point) (q : PointLent) → q ≡ lend_point p
    → filled_on one (head_from q.head) q.table q.text (get_or q.head 8 0) m words
    ≡ filled_on one p.head p.table p.text p.head.write.position m words
filled-lent m words p q e =
    let k = p.head.write.position in
    subst (λ (x : PointLent). filled_on one (head_from x.head) x.table x.text (get_or x.head 8 0) m words ≡ filled_on one p.head p.table p.text k m words)
    (sym e) (ap (λ (h : Head). filled_on one h p.table p.text k m words) (head-back p.head))

-- a list of one
listed-one : (heads tables texts answers : List (List ℕ)) → length heads ≡ 1 → listed heads tables texts answers ≡ listed_at heads tables texts answers 0 ∷ []
listed-one heads tables texts answers e = rw e

module _ (words : List ℕ) (s : SharedLent) (heads tables texts answers : List (List ℕ)) (lengths : Lengths (length heads) heads tables texts answers)
    (ready : AllReady (common_lent words s) (length heads) (listed_at heads tables texts answers)) (alone : FillsAlone heads answers)
    (m : ℕ) (plain : (i : ℕ) → i < length heads → kind_goes_on (get_or (get_or answers i []) 0 0) ≡ true → PlainAt m (get_or heads i [])) where
  abbrev head : List ℕ
  head = get_or heads 0 []

  one-there : 0 < length heads
  one-there = let n = alone.0 in omega arith

  here : ReadyAt (common_lent words s) (listed_at heads tables texts answers 0)
  here = ready 0 one-there alone.1

  pub alone-known : is_known head ≡ true
  alone-known = is_known_lem here

  abbrev point : Point
  point = here.point

  head_is : head ≡ head_numbers point.head
  head_is = ap (λ (p : PointLent). p.head) here.is

  from-head : head_from head ≡ point.head
  from-head = ap head_from head_is ∙ head-back point.head

  left-plain : PlainAt m head → Fills m head
  left-plain (inl f) = f
  left-plain (inr z) = let a = z.0 in let b = alone.2 in absurd (omega arith)

  fills : Fills m head
  fills = left-plain (plain 0 one-there alone.1)

  pub alone-block : InOneBlock (head_from head) (get_or head 8 0) m
  alone-block = (subst (λ (h : Head). TextFits h.write) (sym from-head) (ready-text (is-ready here)), fills.1, fills.2)

  lone : Lone m words s point
  lone =
      let position : get_or head 8 0 ≡ point.head.write.position = ap (λ (h : List ℕ). get_or h 8 0) head_is in
      let phase : get_or head 7 0 ≡ phase_number point.head.write.phase = ap (λ (h : List ℕ). get_or h 7 0) head_is in
      let run : run_words one (head_from head).write ≡ run_words one point.head.write = ap (λ (h : Head). run_words one h.write) from-head in
      record {
        ready = is-ready here;
        few = here.few;
        numbers = here.numbers;
        filling = sym (phase-back point.head.write.phase) ∙ ap phase_of (sym phase ∙ alone.2);
        left = omega (arith, position, run, fills.2);
      }

  pub alone-rounds : 0 < m → (words' h a : List ℕ)
      → words' ≡ filled_on one (head_from head) (get_or tables 0 []) (get_or texts 0 []) (get_or head 8 0) m words
      → h ≡ set head 8 (get_or head 8 0 + m) → a ≡ 1 ∷ 0 ∷ []
      → (turn_left (common_lent words' s) (listed (set heads 0 h) tables texts (set answers 0 a)) ≡ rounds m step_turn_for (common_lent words s) (listed heads tables texts answers))
      × AllReady (common_lent words' s) (length heads) (listed_at (set heads 0 h) tables texts (set answers 0 a))
  alone-rounds some words' h a ew eh ea = (equal, ready')
    where
      a₀ : List ℕ
      a₀ = get_or answers 0 []

      x : PointLent
      x = point_as head (get_or tables 0 []) (get_or texts 0 [])

      done : (let left = filled_on one point.head point.table point.text point.head.write.position m words in
          (rounds m step_turn_for (common_lent words s) (listed_lent (lend_point point) a₀ ∷ [])
          ≡ turn_left (common_lent left s) (listed_lent (lend_point (moved_on m point)) (answer_on m a₀) ∷ []))
          × Ready one left (shared_in s) (moved_on m point))
      done = lone-rounds m a₀ alone.1 lone

      image : words' ≡ filled_on one point.head point.table point.text point.head.write.position m words
      image = ew ∙ filled-lent m words point x here.is

      own : listed_at (set heads 0 h) tables texts (set answers 0 a) 0 ≡ listed_lent (lend_point (moved_on m point)) (1 ∷ 0 ∷ [])
      own =
          let n = lengths.3 in
          kept_same heads tables texts answers h a 0 one-there (omega (arith, n, one-there))
          ∙ ap (λ (y : List ℕ). listed_lent (point_as y (get_or tables 0 []) (get_or texts 0 [])) a) eh
          ∙ ap (λ (p : PointLent). listed_lent p a) (moved-lent m point x here.is) ∙ ap (listed_lent (lend_point (moved_on m point))) ea

      equal : turn_left (common_lent words' s) (listed (set heads 0 h) tables texts (set answers 0 a))
          ≡ rounds m step_turn_for (common_lent words s) (listed heads tables texts answers)
      equal =
          ap (turn_left (common_lent words' s)) (listed-one (set heads 0 h) tables texts (set answers 0 a) (length-set heads 0 h ∙ alone.0))
          ∙ ap (λ (y : ListedLent). turn_left (common_lent words' s) (y ∷ [])) (own ∙ ap (listed_lent (lend_point (moved_on m point))) (sym (answer-some m a₀ some)))
          ∙ ap (λ (w : List ℕ). turn_left (common_lent w s) (listed_lent (lend_point (moved_on m point)) (answer_on m a₀) ∷ [])) image
          ∙ sym done.0
          ∙ ap (λ (p : PointLent). rounds m step_turn_for (common_lent words s) (listed_lent p a₀ ∷ [])) (sym here.is)
          ∙ ap (rounds m step_turn_for (common_lent words s)) (sym (listed-one heads tables texts answers alone.0))

      ready' : AllReady (common_lent words' s) (length heads) (listed_at (set heads 0 h) tables texts (set answers 0 a))
      ready' i l g =
          let n = alone.0 in
          let first : i ≡ 0 = omega (arith, n, l) in
          subst (λ (k : ℕ). ReadyAt (common_lent words' s) (listed_at (set heads 0 h) tables texts (set answers 0 a) k)) (sym first)
          (subst (ReadyAt (common_lent words' s)) (sym own) (subst (λ (w : List ℕ). ReadyAt (common_lent w s) (listed_lent (lend_point (moved_on m point)) (1 ∷ 0 ∷ []))) (sym image)
          (record {
            point = moved_on m point;
            is = refl;
            few = here.few;
            numbers = here.numbers;
            unrefused = done.1.unrefused;
            unread = done.1.unread;
          })))
