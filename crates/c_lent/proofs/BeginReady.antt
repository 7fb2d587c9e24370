-- A beginning leaves all ready whose write goes on: its own point where it is done, and the others. Assumes nothing.
use mathlib.Core.Path.{◌≡◌, refl, sym, ap, ◌∙◌, subst}
use mathlib.Core.Logic.{◌≢◌}
use mathlib.Core.Bool.{Bool, true, false}
use mathlib.Core.List.{List}
use Prim.Native.Nat.{ℕ, zero, suc, ◌+◌, ◌<◌}
use native.Mathlib.Omega.{arith}
use native.Mathlib.Decide.{dec_lt}
use lib.ListN.{length, get_or, set}
use Rattle.words.specs.Edition.{one}
use Rattle.words.proofs.Choice.{choose-true, choose-false}
use Rattle.words.proofs.Tests.{no_true}
use Rattle.block_log.specs.Opening.{number_of}
use Rattle.points.specs.declared.Begun.{Begun}
use Rattle.points.specs.Record.{bad_shared}
use Rattle.points.specs.Calls.{beginning, begin_refusal}
use Rattle.points.specs.Serving.{Turned}
use Rattle.points.proofs.Replies.{beginning-number}
use Rattle.points.proofs.ReadyOn.{begin-ready, begin-others}
use Rattle.c_lent.specs.Numbers.{head_from, is_known, shared_from, SharedLent, PointLent, shared_in, point_in, lend_shared, lend_point}
use Rattle.c_lent.specs.Calls.{PointLeft, unknown, if_known}
use Rattle.c_lent.specs.Serving.{CommonLent, ListedLent, AskingLent, common_lent, listed_lent, asking_lent, turn_left, kind_goes_on}
use Rattle.c_lent.specs.Serving.{begun_answer, begin_turn_for}
use Rattle.c_lent.specs.Serving.{point_as, listed_at}
use Rattle.c_lent.specs.Batch.{ReadyAt, AllReady, Lengths}
use Rattle.c_lent.proofs.Calls.{unknown-10, unknown-11}
use Rattle.c_lent.proofs.Known.{begin-few, known-few}
use Rattle.c_lent.proofs.Turns.{listed_same, listed-other}

-- only a beginning that is not refused goes on
pub begun-on : (n : ℕ) → kind_goes_on (get_or (begun_answer n) 0 0) ≡ true → n ≡ 0
begun-on zero g = refl
begun-on (suc n) g = absurd (no_true g refl)

module _ (words : List ℕ) (s : SharedLent) (p : PointLent) (offset : ℕ) (bytes : List ℕ) where
  abbrev begun : Begun
  begun = beginning one words (shared_in s) (point_in p) offset bytes

  -- the turn of a record; and of numbers that are none
  pub begun-turn : is_known p.head ≡ true → begin_turn_for (common_lent words s) (asking_lent p offset bytes)
      ≡ turn_left (common_lent words (lend_shared begun.shared)) (listed_lent (lend_point begun.point) (begun_answer (number_of begun.reply)))
  unfolding begin_turn_for if_known
  begun-turn e =
      ap (λ (l : PointLeft). turn_left (common_lent words l.shared) (listed_lent l.point (begun_answer l.refused)))
      (choose-true (is_known p.head) _ _ e)

  pub unknown-turn : is_known p.head ≡ false → begin_turn_for (common_lent words s) (asking_lent p offset bytes)
      ≡ turn_left (common_lent words s) (listed_lent p (begun_answer (unknown words s.numbers s.taken)))
  unfolding begin_turn_for if_known
  unknown-turn e =
      ap (λ (l : PointLeft). turn_left (common_lent words l.shared) (listed_lent l.point (begun_answer l.refused)))
      (choose-false (is_known p.head) _ _ e)

  -- a point that is begun is ready
  pub begun-ready : is_known p.head ≡ true → begin_refusal one words (shared_in s) (head_from p.head) p.table offset (length bytes) ≡ 0
      → (answer : List ℕ) → ReadyAt (common_lent words (lend_shared begun.shared)) (listed_lent (lend_point begun.point) answer)
  begun-ready k e answer =
      let r = begin-ready one words (shared_in s) (point_in p) offset bytes e in
      record {
        point = begun.point;
        is = refl;
        few = begin-few one words (shared_in s) (point_in p) (known-few p.head k) offset bytes;
        numbers = omega arith;
        unrefused = r.unrefused;
        unread = r.unread;
      }

  -- and the others stay so
  pub begun-others : {y : ListedLent} → ReadyAt (common_lent words s) y → ReadyAt (common_lent words (lend_shared begun.shared)) y
  begun-others q =
      let r = begin-others one words (shared_in s) (point_in p) offset bytes {q = q.point} (record { unrefused = q.unrefused; unread = q.unread }) in
      record { point = q.point; is = q.is; few = q.few; numbers = omega arith; unrefused = r.unrefused; unread = r.unread }

-- ---- one of several beginnings

-- numbers that are no record's are refused
unknown-some : (words numbers taken : List ℕ) → unknown words numbers taken ≢ 0
unknown-some words numbers taken none = go (bad_shared one words (shared_from numbers taken)) refl
  where
    go : (b : Bool) → bad_shared one words (shared_from numbers taken) ≡ b → ⊥
    go true e = let n = unknown-10 words numbers taken e in omega arith
    go false e = let n = unknown-11 words numbers taken e in omega arith

-- those before it are ready where their writes go on, and then it is too
pub begin-good : (c c' : CommonLent) (i : ℕ) (f f' : ℕ → ListedLent) (a : AskingLent) → AllReady c i f → turn_left c' (f' i) ≡ begin_turn_for c a
    → ((j : ℕ) → j < i → f' j ≡ f j) → AllReady c' (suc i) f'
begin-good c c' i f f' a good e before j l g = go (is_known a.point.head) refl
  where
    T : Type 0
    T = Turned CommonLent ListedLent

    words : List ℕ
    words = c.image

    s : SharedLent
    s = c.shared

    p : PointLent
    p = a.point

    earlier : (d : CommonLent) → j < i → ((y : ListedLent) → ReadyAt c y → ReadyAt d y) → c' ≡ d → ReadyAt c' (f' j)
    earlier d k on same =
        subst (λ (x : CommonLent). ReadyAt x (f' j)) (sym same)
        (subst (ReadyAt d) (sym (before j k)) (on (f j) (good j k (ap (λ (x : ListedLent). kind_goes_on (get_or x.answer 0 0)) (sym (before j k)) ∙ g))))

    go : (b : Bool) → is_known p.head ≡ b → ReadyAt c' (f' j)
    go true known = at (dec_lt j i)
      where
        b : Begun
        b = beginning one words (shared_in s) (point_in p) a.offset a.text

        turned : turn_left c' (f' i) ≡ turn_left (common_lent words (lend_shared b.shared)) (listed_lent (lend_point b.point) (begun_answer (number_of b.reply)))
        turned = e ∙ begun-turn words s p a.offset a.text known

        at : Dec (j < i) → ReadyAt c' (f' j)
        at (yes k) = earlier _ k (λ y q. begun-others words s p a.offset a.text q) (ap (λ (t : T). t.common) turned)
        at (no k) =
            let q : j ≡ i = omega arith in
            let here : f' j ≡ listed_lent (lend_point b.point) (begun_answer (number_of b.reply)) = rw q (ap (λ (t : T). t.own) turned) in
            let n = begin_refusal one words (shared_in s) (head_from p.head) p.table a.offset (length a.text) in
            let none : number_of b.reply ≡ 0 = begun-on _ (ap (λ (x : ListedLent). kind_goes_on (get_or x.answer 0 0)) (sym here) ∙ g) in
            let refusal : n ≡ 0 =
            sym (beginning-number one words (shared_in s) (point_in p) a.offset a.text) ∙ none in
            subst (λ (t : T). ReadyAt t.common (f' j)) (sym turned)
            (subst (ReadyAt (common_lent words (lend_shared b.shared))) (sym here) (begun-ready words s p a.offset a.text known refusal _))
    go false none = at (dec_lt j i)
      where
        turned : turn_left c' (f' i) ≡ turn_left c (listed_lent p (begun_answer (unknown words s.numbers s.taken)))
        turned = e ∙ unknown-turn words s p a.offset a.text none

        at : Dec (j < i) → ReadyAt c' (f' j)
        at (yes k) = earlier c k (λ y q. q) (ap (λ (t : T). t.common) turned)
        at (no k) =
            let q : j ≡ i = omega arith in
            let here : f' j ≡ listed_lent p (begun_answer (unknown words s.numbers s.taken)) = rw q (ap (λ (t : T). t.own) turned) in
            absurd (unknown-some words s.numbers s.taken
            (begun-on _ (ap (λ (x : ListedLent). kind_goes_on (get_or x.answer 0 0)) (sym here) ∙ g)))

-- the same in the lists that are lent
pub begin-good-next : (s s' : CommonLent) (heads tables texts answers : List (List ℕ)) (h t x a : List ℕ) (n i : ℕ) (asked : AskingLent)
    → Lengths n heads tables texts answers → i < n → AllReady s i (listed_at heads tables texts answers)
    → turn_left s' (listed_lent (point_as h t x) a) ≡ begin_turn_for s asked
    → AllReady s' (i + 1) (listed_at (set heads i h) (set tables i t) (set texts i x) (set answers i a))
begin-good-next s s' heads tables texts answers h t x a n i asked l d good e =
    let f' = listed_at (set heads i h) (set tables i t) (set texts i x) (set answers i a) in
    let one' : suc i ≡ i + 1 = omega arith in
    subst (λ (k : ℕ). AllReady s' k f') one' (begin-good s s' i (listed_at heads tables texts answers) f' asked good
    (ap (turn_left s') (listed_same n heads tables texts answers h t x a i l d) ∙ e)
    (λ j k. listed-other heads tables texts answers h t x a i j (λ q. absurd (omega arith))))
