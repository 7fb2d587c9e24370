-- The serving call for C leaves, its numbers read back, what `serving` says (Turns), so what the row of calls in a list leaves and answers (recovery's
-- Row.Served). Assumes nothing.
use Prim.Native.Nat.{ℕ, zero, suc, ◌<◌}
use native.Mathlib.Omega.{arith}
use mathlib.Core.Path.{◌≡◌, refl, sym, ap, ◌∙◌, subst}
use mathlib.Core.Logic.{◌≢◌}
use mathlib.Core.Bool.{Bool, true, false, ◌&&◌, ◌||◌, not}
use mathlib.Core.List.{List, [], ◌∷◌}
use lib.ListN.{length, get_or}
use lib.Dec.{leb, eqb}
use borrow.Author.Tests.{eq-eqb, eqb-true}
use Rattle.words.specs.Edition.{one}
use Rattle.words.specs.Logic.{between, all_of, every, list_from, first, ◌when◌}
use Rattle.words.proofs.Logic.{and_left, and_right, every-all, length-list_from}
use Rattle.words.proofs.Choice.{chosen-zero, chosen-suc}
use Rattle.block_log.specs.Refusals.{number, refusal}
use Rattle.block_log.specs.Opening.{number_of}
use Rattle.block_log.proofs.Replies.{known-back, number-first}
use Rattle.points.specs.declared.Point.{Point}
use Rattle.points.specs.Serving.{Turned, Request, Common, Listed, asking, begin_turn, step_turn, row, serve_rounds, twice, serve_refusal, point_numbers, lasts_of}
use Rattle.points.proofs.Alike.{Pairs, Alike}
use Rattle.recovery.specs.Served.{ServeServed}
use Rattle.recovery.proofs.Row.Served.{is-served, is-stopped, serve-served}
use Rattle.c_lent.specs.Numbers.{shared_in, is_known}
use Rattle.c_lent.specs.Serving.{CommonLent, ListedLent, asking_at, begin_turn_for, step_turn_for, number_at, start_at, Lent, one_for_each, serve_reason}
use Rattle.c_lent.specs.Serving.{ServeLeft, serve_left, lists_of, serve_for}
use Rattle.c_lent.specs.Serving as lent
use Rattle.c_lent.proofs.ServeReasons.{not-each, not-whole}
use Rattle.c_served.specs.Served.{point_at, points_in, request_at, requests_in, common_in, ServeServedAs, ServeServedFor}
use Rattle.c_served.proofs.Turns.{SameCommon, SameListed, rows_alike, asking-pairs, heads-known, answers-same, points-same}

all-at : (p : List ℕ → Bool) (xs : List (List ℕ)) (i : ℕ) → all_of p xs ≡ true → i < length xs → p (get_or xs i []) ≡ true
all-at p [] i a l = absurd (omega arith)
all-at p (x ∷ xs) zero a l = and_left (p x) (all_of p xs) a
all-at p (x ∷ xs) (suc i) a l = all-at p xs i (and_right (p x) (all_of p xs) a) (omega arith)

-- ---- 26 and 27

-- one record and one answer for each
each-between : (n tables texts writes answers : ℕ) → tables ≡ n → texts ≡ n → writes ≡ n → answers ≡ n
    → one_for_each n tables texts writes answers ≡ between 1 n 32
unfolding one_for_each every
each-between n tables texts writes answers a b c d =
    rw (eq-eqb tables n a, eq-eqb texts n b, eq-eqb writes n c, eq-eqb answers n d, and-true (leb n 32))
  where
    and-true : (b : Bool) → (b && true) ≡ b
    and-true true = refl
    and-true false = refl

numbers-are : (heads tables texts : List (List ℕ)) (i n : ℕ) → point_numbers (list_from i n (point_at heads tables texts)) ≡ list_from i n (number_at heads)
numbers-are heads tables texts i zero = refl
numbers-are heads tables texts i (suc n) = ap (λ (l : List ℕ). number_at heads i ∷ l) (numbers-are heads tables texts (suc i) n)

module _ (heads tables texts answers writes : List (List ℕ)) (bytes : List ℕ) where
  abbrev n : ℕ
  n = length heads

  abbrev why : ℕ
  why = serve_reason heads (length tables) (length texts) writes (length answers) (length bytes)

  -- with one write for each
  same-reason : Lent heads tables texts answers writes bytes
      → why ≡ serve_refusal (point_numbers (points_in heads tables texts)) (length (requests_in writes bytes))
  unfolding serve_reason serve_refusal
  same-reason l =
      let each = each-between n (length tables) (length texts) (length writes) (length answers) l.0 l.1 l.3 l.2 in
      let whole : eqb (start_at writes (length writes)) (length bytes) ≡ true = eq-eqb _ _ (ap (start_at writes) l.3 ∙ l.4) in
      let numbers = numbers-are heads tables texts 0 n in
      let many : length (list_from 0 n (number_at heads)) ≡ n = length-list_from 0 n (number_at heads) in
      let wrote : length (requests_in writes bytes) ≡ length writes = length-list_from 0 (length writes) (request_at writes bytes) in
      rw (each, whole, numbers, many, wrote, eq-eqb (length writes) n l.3) (plain (between 1 n 32) (twice (list_from 0 n (number_at heads))))
    where
      plain : (b t : Bool) → first (26 when not b ∷ 26 when not true ∷ 27 when t ∷ []) ≡ first (26 when (not b || not true) ∷ 27 when t ∷ [])
      plain true t = refl
      plain false t = refl

  is-lent : one_for_each n (length tables) (length texts) (length writes) (length answers) ≡ true
      → eqb (start_at writes (length writes)) (length bytes) ≡ true → Lent heads tables texts answers writes bytes
  unfolding one_for_each
  is-lent e f =
      let ts = every-all _ e in
      let w : length writes ≡ n = eqb-true _ _ ts.1.1.1.1.0 in (
        eqb-true _ _ ts.1.1.0,
        eqb-true _ _ ts.1.1.1.0,
        eqb-true _ _ ts.1.1.1.1.1.0,
        w,
        sym (ap (start_at writes) w) ∙ eqb-true (start_at writes (length writes)) (length bytes) f,
      )

  -- the reason is one of document 01's numbers, so that the reply tells it
  why-told : (k : ℕ) → why ≡ suc k → number (refusal (suc k)) ≡ suc k
  unfolding serve_reason
  why-told k e =
      let each = one_for_each n (length tables) (length texts) (length writes) (length answers) in
      let whole = eqb (start_at writes (length writes)) (length bytes) in
      known-back (26 when not each ∷ 26 when not whole ∷ 27 when twice (list_from 0 n (number_at heads)) ∷ []) refl k e

  not_lent : (Lent heads tables texts answers writes bytes → ⊥) → why ≡ 26
  not_lent never = go _ refl _ refl
    where
      go : (b : Bool) → one_for_each n (length tables) (length texts) (length writes) (length answers) ≡ b
          → (d : Bool) → eqb (start_at writes (length writes)) (length bytes) ≡ d → why ≡ 26
      go false e d f = sym (not-each heads (length tables) (length texts) writes (length answers) (length bytes) e)
      go true e false f = sym (not-whole heads (length tables) (length texts) writes (length answers) (length bytes) e f)
      go true e true f = absurd (never (is-lent e f))

  -- ---- the call

  abbrev points : List Point
  points = points_in heads tables texts

  abbrev requests : List Request
  requests = requests_in writes bytes

  module _ (c : CommonLent) where
    abbrev left : ServeLeft
    left = serve_for c heads tables texts answers writes bytes

    -- the row in numbers, and that of the records
    abbrev numbers : Turned CommonLent (List ListedLent)
    numbers = row begin_turn_for step_turn_for (serve_rounds one n) c (lent.asking heads tables texts writes bytes)

    abbrev records : Turned Common (List Listed)
    records = row (begin_turn one) (step_turn one) (serve_rounds one (length points)) (common_in c) (asking points requests)

    is_row : why ≡ 0 → left ≡ lists_of numbers.common numbers.own
    unfolding serve_for
    is_row e = chosen-zero why _ _ e

    is-refused : (k : ℕ) → why ≡ suc k → left ≡ serve_left (suc k) c heads tables texts answers
    unfolding serve_for
    is-refused k e = chosen-suc why k _ _ e

    refused_why : left.refused ≡ why
    refused_why = go why refl
      where
        go : (k : ℕ) → why ≡ k → left.refused ≡ why
        go zero e = ap (λ (x : ServeLeft). x.refused) (is_row e) ∙ sym e
        go (suc k) e = ap (λ (x : ServeLeft). x.refused) (is-refused k e) ∙ sym e

    unchanged : left.refused ≢ 0 → left ≡ serve_left left.refused c heads tables texts answers
    unchanged h = go why refl
      where
        go : (k : ℕ) → why ≡ k → left ≡ serve_left left.refused c heads tables texts answers
        go zero e = absurd (h (refused_why ∙ e))
        go (suc k) e = rw (is-refused k e)

    module _ (l : Lent heads tables texts answers writes bytes) (known : all_of is_known heads ≡ true) where
      alike : Alike SameCommon (Pairs SameListed) numbers records
      alike =
          let many : length points ≡ n = length-list_from 0 n (point_at heads tables texts) in
          rw (many, l.3) (rows_alike (serve_rounds one n) c _ _ (asking-pairs 0 n (asking_at heads tables texts writes bytes) (point_at heads tables texts)
          (request_at writes bytes) (λ j a b. record { known = all-at is_known heads j known (omega arith); same = refl })))

      served-as : ServeServedAs c heads tables texts writes bytes left
      served-as = go why refl
        where
          go : (k : ℕ) → why ≡ k → ServeServedAs c heads tables texts writes bytes left
          go zero e =
              let xs = numbers.own in
              let ys = records.own in
              let p : Pairs SameListed xs ys = alike.own in
              rw (is_row e) (record {
                lasts = lasts_of ys;
                known = heads-known xs ys p;
                told = refl;
                answers = λ z. answers-same xs ys p;
                served = serve-served one c.image (shared_in c.shared) points requests _ (rw (alike.common, points-same xs ys p)
                    (sym (is-served one c.image (shared_in c.shared) points requests (sym (same-reason l) ∙ e))));
              })
          go (suc k) e = rw (is-refused k e) (record {
            lasts = [];
            known = known;
            told = why-told k e;
            answers = λ z. absurd (omega arith);
            served = serve-served one c.image (shared_in c.shared) points requests _
                (sym (is-stopped one c.image (shared_in c.shared) points requests k (sym (same-reason l) ∙ e)));
          })

    pub serve-for : (l : ServeLeft) → l ≡ left → ServeServedFor c heads tables texts answers writes bytes l
    unfolding ServeServedFor
    serve-for l e = subst (ServeServedFor c heads tables texts answers writes bytes) (sym e)
        (served-as, λ never. refused_why ∙ not_lent never, unchanged)

-- so the number that is told is the reason's, 27 no other than 27
pub told-reason :
    {c : CommonLent} {heads tables texts writes : List (List ℕ)} {bytes : List ℕ} {l : ServeLeft} → ServeServedAs c heads tables texts writes bytes l
    → l.refused ≡ serve_refusal (point_numbers (points_in heads tables texts)) (length (requests_in writes bytes))
unfolding ServeServed serve_refusal
told-reason {heads} {tables} {texts} {writes} {bytes} x =
    let numbers = point_numbers (points_in heads tables texts) in
    let wrote = length (requests_in writes bytes) in
    let lists = 26 when (not (between 1 (length numbers) 32) || not (eqb wrote (length numbers))) ∷ 27 when twice numbers ∷ [] in
    sym x.told ∙ ap number_of x.served.0 ∙ number-first lists refl
