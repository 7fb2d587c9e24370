-- A row of the serving call, in numbers, is the row of the records read back: beginnings and steps in numbers are those of the records, and they leave numbers
-- that are a record's, so no later turn is refused for its numbers. Assumes nothing.
use Prim.Native.Nat.{ℕ, zero, suc, ◌+◌, ◌≤◌, ◌<◌}
use native.Mathlib.Omega.{arith}
use mathlib.Core.Path.{◌≡◌, refl, sym, ap, ◌∙◌, subst}
use mathlib.Core.Bool.{Bool, true, false}
use mathlib.Core.List.{List, [], ◌∷◌, map}
use lib.ListN.{length, get_or}
use Rattle.words.specs.Edition.{one}
use Rattle.words.specs.Logic.{all_of, list_from}
use Rattle.words.proofs.Logic.{and_both}
use Rattle.words.proofs.Choice.{choose-true}
use Rattle.block_log.specs.Refusals.{Reply}
use Rattle.std.specs.Prelude.{Ok, Err}
use Rattle.block_log.specs.Refusals.{number}
use Rattle.block_log.proofs.Replies.{number-not-0}
use Rattle.block_log.specs.Opening.{number_of}
use Rattle.points.specs.declared.Point.{Point}
use Rattle.points.specs.Calls.{beginning}
use Rattle.points.specs.Stepping.{stepping}
use Rattle.points.specs.Serving.{Turned, Request, Common, Asking, asking, Last, begun, stepped, Listed, is_unfinished, begin_turn, step_turn, row}
use Rattle.points.specs.Serving.{points_of, lasts_of}
use Rattle.points.proofs.Turns.{turn-of, no-turn}
use Rattle.points.proofs.Alike.{Pairs, Alike, TurnsAlike, row-alike}
use Rattle.c_lent.specs.Numbers.{shared_in, point_in, is_known}
use Rattle.c_lent.specs.Calls.{StepLeft, step_for, if_known}
use Rattle.c_lent.specs.Serving.{CommonLent, ListedLent, AskingLent, turn_left, common_lent, listed_lent, begun_answer, kind_goes_on, begin_turn_for, step_turn_for}
use Rattle.c_lent.proofs.Known.{begin-known, step-known}
use Rattle.c_lent.proofs.BeginReady.{begun-turn}
use Rattle.c_lent.proofs.ReadyAt.{outcome_turn, goes_same}
use Rattle.c_lent.proofs.Places.{later-list}
use Rattle.c_lent.proofs.Turns.{turn_on, turn-off}
use Rattle.c_served.specs.Served.{point_at, points_in, last_numbers, common_in}
use Rattle.c_served.proofs.Back.{point-back}

-- ---- what is handed in and left in numbers, and with records

abbrev pub SameCommon : CommonLent → Common → Type 0
SameCommon c d = common_in c ≡ d

abbrev asking_in : AskingLent → Asking
asking_in a = record { point = point_in a.point; request = record { offset = a.offset; text = a.text } }

pub record SameAsking (a : AskingLent) (b : Asking) : Type 0 where
  pub known : is_known a.point.head ≡ true
  pub same : asking_in a ≡ b

pub record SameListed (x : ListedLent) (y : Listed) : Type 0 where
  pub known : is_known x.point.head ≡ true
  pub point : point_in x.point ≡ y.point
  pub answer : x.answer ≡ last_numbers y.last

abbrev Left : Turned CommonLent ListedLent → Turned Common Listed → Type 0
Left = Alike SameCommon SameListed

-- ---- a turn

-- the answer of a beginning, by the refusal's number
begun-numbers : (r : Reply) → begun_answer (number_of r) ≡ last_numbers (begun r)
begun-numbers (Ok tt) = refl
begun-numbers (Err e) = go (number e) refl
  where
    go : (n : ℕ) → number e ≡ n → begun_answer n ≡ 5 ∷ n ∷ []
    go zero z = absurd (number-not-0 e z)
    go (suc n) z = refl

begin-own : (c : CommonLent) (a : AskingLent) → is_known a.point.head ≡ true → Left (begin_turn_for c a) (begin_turn one (common_in c) (asking_in a))
unfolding begin_turn
begin-own c a known =
    let s = shared_in c.shared in
    let q = point_in a.point in
    let b = beginning one c.image s q a.offset a.text in
    subst (λ (z : Turned CommonLent ListedLent). Left z (begin_turn one (common_in c) (asking_in a)))
    (sym (begun-turn c.image c.shared a.point a.offset a.text known))
    (record {
      common = refl;
      own = record {
        known = begin-known one c.image s a.point.head a.point.table a.point.text known a.offset a.text;
        point = point-back b.point;
        answer = begun-numbers b.reply;
      };
    })

begin-alike : TurnsAlike SameCommon SameAsking SameListed begin_turn_for (begin_turn one)
begin-alike c d a b e p = subst (λ (z : Common). Left (begin_turn_for c a) (begin_turn one z b)) e
    (subst (λ (z : Asking). Left (begin_turn_for c a) (begin_turn one (common_in c) z)) p.same (begin-own c a p.known))

-- who goes on, by the numbers of the last answer
goes-alike : (a : Last) → kind_goes_on (get_or (last_numbers a) 0 0) ≡ is_unfinished a
goes-alike (begun (Ok x)) = refl
goes-alike (begun (Err e)) = refl
goes-alike (stepped a) = goes_same a

-- the step of a record
step-turn : (c : CommonLent) (x : ListedLent) → is_known x.point.head ≡ true → kind_goes_on (get_or x.answer 0 0) ≡ true
    → step_turn_for c x ≡ outcome_turn c.image (stepping one c.image (shared_in c.shared) (point_in x.point))
unfolding if_known
step-turn c x known g =
    sym (turn_on c.image c.shared x.point x.answer g (step_for c.image c.shared x.point []) [] refl)
    ∙ ap (λ (l : StepLeft). turn_left (common_lent l.image l.shared) (listed_lent l.point (l.answer.kind ∷ l.answer.value ∷ [])))
    (choose-true (is_known x.point.head) _ _ known)

step-alike : TurnsAlike SameCommon SameListed SameListed step_turn_for (step_turn one)
step-alike c d x y e p = subst (λ (z : Common). Left (step_turn_for c x) (step_turn one z y)) e
    (subst (λ (z : Point). Left (step_turn_for c x) (step_turn one (common_in c) (record { point = z; last = y.last }))) p.point
    (own (is_unfinished y.last) refl))
  where
    same : kind_goes_on (get_or x.answer 0 0) ≡ is_unfinished y.last
    same = ap (λ (a : List ℕ). kind_goes_on (get_or a 0 0)) p.answer ∙ goes-alike y.last

    here : Listed
    here = record { point = point_in x.point; last = y.last }

    own : (b : Bool) → is_unfinished y.last ≡ b → Left (step_turn_for c x) (step_turn one (common_in c) here)
    own true h =
        let s = shared_in c.shared in
        let o = stepping one c.image s (point_in x.point) in
        rw (step-turn c x p.known (same ∙ h), turn-of one c.image s (point_in x.point) y.last h)
        (record {
          common = refl;
          own = record {
            known = step-known one c.image s x.point.head x.point.table x.point.text p.known;
            point = point-back o.point;
            answer = refl;
          };
        })
    own false h =
        rw (sym (turn-off c.image c.shared x.point x.answer (same ∙ h)), no-turn one (common_in c) here h)
        (record { common = refl; own = record { known = p.known; point = refl; answer = p.answer } })

-- ---- the row

pub rows_alike : (k : ℕ) (c : CommonLent) (xs : List AskingLent) (ys : List Asking) → Pairs SameAsking xs ys
    → Alike SameCommon (Pairs SameListed) (row begin_turn_for step_turn_for k c xs) (row (begin_turn one) (step_turn one) k (common_in c) ys)
rows_alike k c xs ys p = row-alike SameCommon SameAsking SameListed begin_turn_for (begin_turn one) step_turn_for (step_turn one) begin-alike step-alike
    k c (common_in c) xs ys refl p

-- ---- the lists

pub asking-pairs : (i n : ℕ) (f : ℕ → AskingLent) (g : ℕ → Point) (h : ℕ → Request)
    → ((j : ℕ) → i ≤ j → j < i + n → SameAsking (f j) (record { point = g j; request = h j }))
    → Pairs SameAsking (list_from i n f) (asking (list_from i n g) (list_from i n h))
asking-pairs i zero f g h p = tt
asking-pairs i (suc n) f g h p = (p i (omega arith) (omega arith), asking-pairs (suc i) n f g h (λ j a b. p j (omega arith) (omega arith)))

pub heads-known : (xs : List ListedLent) (ys : List Listed) → Pairs SameListed xs ys → all_of is_known (map (λ x. x.point.head) xs) ≡ true
heads-known [] [] p = refl
heads-known (x ∷ xs) (y ∷ ys) p = and_both (is_known x.point.head) _ p.0.known (heads-known xs ys p.1)
heads-known [] (y ∷ ys) p = absurd p
heads-known (x ∷ xs) [] p = absurd p

pub answers-same : (xs : List ListedLent) (ys : List Listed) → Pairs SameListed xs ys → map (λ x. x.answer) xs ≡ map last_numbers (lasts_of ys)
answers-same [] [] p = refl
answers-same (x ∷ xs) (y ∷ ys) p = rw (p.0.answer, answers-same xs ys p.1)
answers-same [] (y ∷ ys) p = absurd p
answers-same (x ∷ xs) [] p = absurd p

pub points-same : (xs : List ListedLent) (ys : List Listed) → Pairs SameListed xs ys
    → points_in (map (λ x. x.point.head) xs) (map (λ x. x.point.table) xs) (map (λ x. x.point.text) xs) ≡ points_of ys
points-same [] [] p = refl
points-same (x ∷ xs) (y ∷ ys) p =
    let heads = map (λ (z : ListedLent). z.point.head) (x ∷ xs) in
    let tables = map (λ (z : ListedLent). z.point.table) (x ∷ xs) in
    let texts = map (λ (z : ListedLent). z.point.text) (x ∷ xs) in
    rw (later-list 0 (length (map (λ (z : ListedLent). z.point.head) xs)) (point_at heads tables texts), points-same xs ys p.1, p.0.point)
points-same [] (y ∷ ys) p = absurd p
points-same (x ∷ xs) [] p = absurd p
