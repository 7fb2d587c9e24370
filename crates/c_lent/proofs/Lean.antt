-- Steps of points that are known to fit, made without a plan: moving on by one entry, committing by the head. Assumes nothing.
use mathlib.Core.Path.{◌≡◌, refl, sym, ap, ◌∙◌, subst}
use mathlib.Core.Bool.{true, false}
use mathlib.Core.List.{List, [], ◌∷◌}
use mathlib.Core.Option.{some}
use Prim.Native.Nat.{ℕ}
use lib.ListN.{get_or}
use Rattle.words.specs.Edition.{one}
use Rattle.words.specs.Memory.{after}
use Rattle.words.proofs.Tests.{no_true}
use Rattle.points.specs.declared.Head.{Head}
use Rattle.points.specs.declared.Point.{Point}
use Rattle.std.specs.Prelude.{Option, Some, None}
use Rattle.points.specs.Record.{point_of}
use Rattle.points.specs.Plan.{Outcome}
use Rattle.points.specs.Search.{reporting_place}
use Rattle.points.specs.Stepping.{step_refusal, stepping}
use Rattle.points.specs.Serving.{Turned}
use Rattle.points.specs.Batch.{passed_by, MovesByOne, entry_store, committed_by, CommitsByHead}
use Rattle.c_lent.specs.Numbers.{head_numbers, head_from, is_known, shared_numbers, shared_from, SharedLent, PointLent, shared_as, shared_in, point_in}
use Rattle.c_lent.specs.Serving.{CommonLent, ListedLent, common_lent, listed_lent, point_as, turn_left, kind_goes_on, step_turn_for}
use Rattle.c_lent.specs.Calls.{StepLeft, step_for}
use Rattle.c_lent.specs.Batch.{ReadyAt, Steps, MovesOn, CommitsOn}
use Rattle.c_lent.proofs.Heads.{head-back}
use Rattle.c_lent.proofs.Shared.{numbers-same}
use Rattle.c_lent.proofs.Turns.{turn_on}
use Rattle.c_lent.proofs.ReadyAt.{outcome_turn, ready-turn, is_known_lem}

-- the answer has no say in whether a point is ready
pub any-answer : {c : CommonLent} {p : PointLent} {a : List ℕ} → ReadyAt c (listed_lent p a) → (b : List ℕ) → ReadyAt c (listed_lent p b)
any-answer r b =
    record { point = r.point; is = r.is; few = r.few; numbers = r.numbers; unrefused = r.unrefused; unread = r.unread }

module _ {words : List ℕ} {s : SharedLent} {p : PointLent} (r : Steps words s p) where
  back : (a : List ℕ) → point_in p ≡ (r a).point
  back a = rw ((r a).is, head-back (r a).point.head)

  pub known : is_known p.head ≡ true
  known = is_known_lem (r [])

  pub not_refused : step_refusal one words (shared_in s) (head_from p.head) p.table ≡ 0
  not_refused = subst (λ (q : Point). step_refusal one words (shared_in s) q.head q.table ≡ 0) (sym (back [])) (r []).unrefused

  turned_by : (a : List ℕ) → kind_goes_on (get_or a 0 0) ≡ true → (o : Outcome) → stepping one words (shared_in s) (point_in p) ≡ o
      → outcome_turn words o ≡ step_turn_for (common_lent words s) (listed_lent p a)
  turned_by a g o e =
      ap (outcome_turn words) (sym e) ∙ ap (λ (q : Point). outcome_turn words (stepping one words (shared_in s) q)) (back a) ∙ sym (ready-turn (r a) g)

  -- it moves on by one entry
  pub moved-turn : (a : List ℕ) → kind_goes_on (get_or a 0 0) ≡ true → (left : Head) (table' numbers' : List ℕ)
      → stepping one words (shared_in s) (point_in p) ≡ passed_by (shared_in s) left table' p.text
      → numbers' ≡ shared_numbers (reporting_place left (shared_in s))
      → turn_left (common_lent words (shared_as numbers' s.taken)) (listed_lent (point_as (head_numbers left) table' p.text) (2 ∷ 0 ∷ []))
      ≡ step_turn_for (common_lent words s) (listed_lent p a)
  unfolding after
  moved-turn a g left table' numbers' e n = rw n (turned_by a g _ e)

  -- it commits
  pub committed-turn : (a : List ℕ) → kind_goes_on (get_or a 0 0) ≡ true → (left : Head) (words' taken' table' text' : List ℕ)
      → stepping one words (shared_in s) (point_in p) ≡ committed_by one (shared_in s) (head_from p.head) taken' left table' text'
      → words' ≡ after one words (some (entry_store one (head_from p.head)))
      → turn_left (common_lent words' (shared_as s.numbers taken')) (listed_lent (point_as (head_numbers left) table' text') (4 ∷ get_or p.head 10 0 ∷ []))
      ≡ step_turn_for (common_lent words s) (listed_lent p a)
  committed-turn a g left words' taken' table' text' e w =
      rw w (ap (λ (n : List ℕ). turn_left (common_lent (after one words (some (entry_store one (head_from p.head)))) (shared_as n taken'))
      (listed_lent (point_as (head_numbers left) table' text') (4 ∷ get_or p.head 10 0 ∷ []))) (numbers-same s.taken left s.numbers (r a).numbers)
      ∙ turned_by a g _ e)

-- ---- the ways out of the code

module _ {words numbers head table : List ℕ} {h : Head} (eh : h ≡ head_from head) {blocks : ℕ} (eb : blocks ≡ get_or numbers 0 0) {r : Option Head} {table' : List ℕ}
    (m : MovesByOne words blocks h table r table') where
  -- it has moved on
  pub moves-done : (left : Head) → r ≡ Some left → (numbers' head' : List ℕ) → ((taken : List ℕ) → numbers' ≡ shared_numbers (reporting_place left (shared_from numbers taken)))
      → head' ≡ head_numbers left → MovesOn words numbers head table true numbers' head' table'
  moves-done left d numbers' head' en eh' =
      record {
        moved = λ e taken text a steps g.
            let s = shared_from numbers taken in
            let free : step_refusal one words s h table ≡ 0 = rw eh (not_refused steps) in
            let st : stepping one words s (point_of (head_from head) table text) ≡ passed_by s left table' text =
            subst (λ (k : Head). stepping one words s (point_of k table text) ≡ passed_by s left table' text) eh (m.moved left d s text (sym eb) free) in
            rw eh' (moved-turn steps a g left table' numbers' st (en taken));
        stayed = λ e. absurd (no_true refl e);
      }

  -- it has not
  pub moves_not : r ≡ None → MovesOn words numbers head table false numbers head table'
  moves_not d = record { moved = λ e. absurd (no_true e refl); stayed = λ e. (refl, refl, m.stayed d) }

module _ {words taken head table text : List ℕ} {h : Head} (eh : h ≡ head_from head) {r : Option Head} {words' taken' table' text' : List ℕ}
    (k : CommitsByHead words taken h table text r words' taken' table' text') where
  -- it has committed
  pub commits-done : (left : Head) → r ≡ Some left → (head' : List ℕ) → head' ≡ head_numbers left
      → CommitsOn words taken head table text true words' taken' head' table' text'
  commits-done left d head' eh' =
      record {
        committed = λ e numbers a steps g.
            let s = shared_from numbers taken in
            let free : step_refusal one words s h table ≡ 0 = rw eh (not_refused steps) in
            let st : stepping one words s (point_of (head_from head) table text) ≡ committed_by one s (head_from head) taken' left table' text' =
            subst (λ (x : Head). stepping one words s (point_of x table text) ≡ committed_by one s x taken' left table' text') eh (k.committed left d s refl free) in
            let w : words' ≡ after one words (some (entry_store one (head_from head))) =
            subst (λ (x : Head). words' ≡ after one words (some (entry_store one x))) eh (k.stored left d) in
            rw eh' (committed-turn steps a g left words' taken' table' text' st w);
        stayed = λ e. absurd (no_true refl e);
      }

  -- it has not
  pub commits-not : r ≡ None → CommitsOn words taken head table text false words' taken' head table' text'
  commits-not d =
      let e = k.stayed d in
      record { committed = λ t. absurd (no_true t refl); stayed = λ t. (e.0, e.1, refl, e.2, e.3) }

-- one after the other: what has not moved on may commit, what has not committed makes a whole step
module _ {words numbers taken head table text : List ℕ} (steps : Steps words (shared_as numbers taken) (point_as head table text)) (a : List ℕ)
    (g : kind_goes_on (get_or a 0 0) ≡ true) {numbers₁ head₁ table₁ : List ℕ} (m : MovesOn words numbers head table false numbers₁ head₁ table₁) where
  pub known-then : is_known head₁ ≡ true
  known-then = rw (m.stayed refl).1 (known steps)

  same_point : point_as head₁ table₁ text ≡ point_as head table text
  same_point = rw ((m.stayed refl).1, (m.stayed refl).2)

  abbrev Left : Type 0
  Left = Turned CommonLent ListedLent

  pub then-commits : {words' taken' head' table' text' : List ℕ} → CommitsOn words taken head₁ table₁ text true words' taken' head' table' text'
      → (retries : ℕ) → retries ≡ get_or head₁ 10 0
      → turn_left (common_lent words' (shared_as numbers₁ taken')) (listed_lent (point_as head' table' text') (4 ∷ retries ∷ []))
      ≡ step_turn_for (common_lent words (shared_as numbers taken)) (listed_lent (point_as head table text) a)
  then-commits k retries e =
      let en = (m.stayed refl).0 in
      let steps' : Steps words (shared_as numbers₁ taken) (point_as head₁ table₁ text) = rw (en, same_point) steps in
      rw e (k.committed refl numbers₁ a steps' g)
      ∙ ap (λ (p : PointLent). step_turn_for (common_lent words (shared_as numbers₁ taken)) (listed_lent p a)) same_point
      ∙ ap (λ (n : List ℕ). step_turn_for (common_lent words (shared_as n taken)) (listed_lent (point_as head table text) a)) en

  pub then-steps : {words₁ taken₁ head₂ table₂ text₂ : List ℕ} → CommitsOn words taken head₁ table₁ text false words₁ taken₁ head₂ table₂ text₂
      → (l : StepLeft) (lent : List ℕ) → l ≡ step_for words₁ (shared_as numbers₁ taken₁) (point_as head₂ table₂ text₂) lent
      → turn_left (common_lent l.image l.shared) (listed_lent l.point (l.answer.kind ∷ l.answer.value ∷ []))
      ≡ step_turn_for (common_lent words (shared_as numbers taken)) (listed_lent (point_as head table text) a)
  then-steps {words₁} {taken₁} {head₂} {table₂} {text₂} k l lent e =
      let k' = k.stayed refl in
      let p : point_as head₂ table₂ text₂ ≡ point_as head table text = rw (k'.2, k'.3, k'.4) same_point in
      let s : shared_as numbers₁ taken₁ ≡ shared_as numbers taken = rw (k'.1, (m.stayed refl).0) in
      let e' : l ≡ step_for words (shared_as numbers taken) (point_as head table text) lent =
      e ∙ ap (λ (w : List ℕ). step_for w (shared_as numbers₁ taken₁) (point_as head₂ table₂ text₂) lent) k'.0
      ∙ ap (λ (t : SharedLent). step_for words t (point_as head₂ table₂ text₂) lent) s ∙ ap (λ (q : PointLent). step_for words (shared_as numbers taken) q lent) p in
      turn_on words (shared_as numbers taken) (point_as head table text) a g l lent e'
