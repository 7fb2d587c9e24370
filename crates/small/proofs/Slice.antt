-- What the functions leave in the slice: a log after the other, and all of them at once. Assumes nothing.
use Prim.Native.Nat.{ℕ, zero, suc, ◌+◌, ◌*◌, ◌-◌, ◌/◌, ◌≤◌, ◌<◌}
use native.Mathlib.Omega.{arith}
use mathlib.Core.Path.{◌≡◌, refl, sym, ap, ◌∙◌}
use mathlib.Core.Logic.{◌≢◌}
use mathlib.Core.Bool.{Bool, true, false}
use mathlib.Core.List.{List, [], ◌∷◌, ◌++◌, flat_map, append_assoc}
use lib.ListN.{length, get_or, take, drop, set, length-append, length-set}
use lib.Dec.{ltb}
use borrow.Author.Tests.{lt-ltb, le-ltb}
use Rattle.words.specs.Logic.{list_from}
use Rattle.words.proofs.Logic.{take_none}
use Rattle.small.specs.SmallLogs.{two_slots, Fills}
use Rattle.small.specs.Tried.{entry_count, legal_entry, one_more, pairs, tried, accepts, kept, legal_logs}
use Rattle.small.specs.Parts.{Filled, log_of, Room, keep, keep_all, Keeps}
use Rattle.small.specs.Computing.{computing}
use Rattle.small.proofs.Image.{accepts-none, accepts-one}
use Rattle.small.proofs.Kept.{kept-yes, kept-no}

abbrev pub filled : List ℕ → ℕ → Filled
filled words count = record { words = words; count = count }

-- ---- one log

pub keep-full : (words : List ℕ) (n : ℕ) (es : List ℕ) → length words ≤ 2 * n + 1 → keep (filled words n) es ≡ filled words n
unfolding keep
keep-full words n es h = rw (keep, le-ltb (2 * n + 1) (length words) h)

pub keep-refused : (words : List ℕ) (n : ℕ) (es : List ℕ) → accepts es ≡ false → keep (filled words n) es ≡ filled words n
unfolding keep
keep-refused words n es h = go (ltb (2 * n + 1) (length words)) refl
  where
    go : (t : Bool) → ltb (2 * n + 1) (length words) ≡ t → keep (filled words n) es ≡ filled words n
    go true e = rw (keep, e, h)
    go false e = rw (keep, e)

keep-done :
    (words : List ℕ) (n : ℕ) (es : List ℕ) → 2 * n + 1 < length words → accepts es ≡ true
    → keep (filled words n) es ≡ filled (set (set words (2 * n) (get_or es 0 0)) (2 * n + 1) (get_or es 1 0)) (suc n)
unfolding keep
keep-done words n es h a = rw (keep, lt-ltb (2 * n + 1) (length words) h, a)

-- what a function is handed and leaves, in these cases
pub keeps_same : (words : List ℕ) (n : ℕ) (es : List ℕ) → keep (filled words n) es ≡ filled words n → Room words n → Keeps (es ∷ []) words n words n
unfolding keep_all
keeps_same words n es e room = (sym e, room)

pub keeps-one : (words : List ℕ) (n a b : ℕ) → 2 * n + 1 < length words → accepts (a ∷ b ∷ []) ≡ true
    → Keeps ((a ∷ b ∷ []) ∷ []) words n (set (set words (2 * n) a) (2 * n + 1) b) (n + 1)
unfolding keep_all
keeps-one words n a b h t =
    let e : suc n ≡ n + 1 = omega arith in (
      sym (keep-done words n (a ∷ b ∷ []) h t ∙ ap (filled _) e),
      omega (arith, length-set (set words (2 * n) a) (2 * n + 1) b, length-set words (2 * n) a),
    )

-- an entry that is not there is an empty slot
keep-none : (f : Filled) → keep f (0 ∷ 0 ∷ []) ≡ keep f []
unfolding keep
keep-none f = rw (keep, accepts-none)

keep_one : (f : Filled) (e : ℕ) → keep f (e ∷ 0 ∷ []) ≡ keep f (e ∷ [])
unfolding keep
keep_one f e = rw (keep, accepts-one e)

-- the entry alone, or behind the first
module _ (words : List ℕ) (n : ℕ) (after : List ℕ) (r e : ℕ) where
  pub longer-empty : (first : ℕ) → first ≡ 0 → Keeps ((e ∷ 0 ∷ []) ∷ []) words n after r → Keeps ((log_of first ++ e ∷ []) ∷ []) words n after r
  unfolding keep_all
  longer-empty first z k = rw z (k.0 ∙ keep_one (filled words n) e, k.1)

  pub longer-some : (first : ℕ) → first ≢ 0 → Keeps ((first ∷ e ∷ []) ∷ []) words n after r → Keeps ((log_of first ++ e ∷ []) ∷ []) words n after r
  longer-some zero ne k = absurd (ne refl)
  longer-some (suc first) ne k = k

-- ---- one log after the other

all_append : (f : Filled) (xs ys : List (List ℕ)) → keep_all f (xs ++ ys) ≡ keep_all (keep_all f xs) ys
unfolding keep_all
all_append f [] ys = refl
all_append f (x ∷ xs) ys = all_append (keep f x) xs ys

-- the logs that go in for the legal entries from k on
abbrev pub logs_from : (ℕ → List (List ℕ)) → ℕ → List (List ℕ)
logs_from g k = flat_map g (list_from k (entry_count - k) legal_entry)

-- one entry more, each in turn; and again one more of each
abbrev pub longer : List ℕ → ℕ → List (List ℕ)
longer es e = (es ++ e ∷ []) ∷ []

pub each-longer : (es : List ℕ) → one_more es ≡ logs_from (longer es) 0
unfolding flat_map
each-longer es = refl

pub each-pair : pairs ≡ logs_from (λ e. one_more (log_of e)) 0
unfolding computing
each-pair = refl

module _ (g : ℕ → List (List ℕ)) (f : Filled) (words : List ℕ) (n : ℕ) where
  pub next-entry :
      (after : List ℕ) (r k e : ℕ) → k < entry_count → e ≡ legal_entry k → Keeps (g e) words n after r → f ≡ keep_all (filled words n) (logs_from g k)
      → f ≡ keep_all (filled after r) (logs_from g (k + 1))
  unfolding flat_map
  next-entry after r k e h is kept from =
      let i : entry_count - k ≡ suc (entry_count - (k + 1)) = omega arith in
      let j : suc k ≡ k + 1 = omega arith in
      from ∙ ap (λ m. keep_all (filled words n) (flat_map g (list_from k m legal_entry))) i
      ∙ all_append (filled words n) (g (legal_entry k)) (flat_map g (list_from (suc k) (entry_count - (k + 1)) legal_entry))
      ∙ ap (λ x. keep_all x (flat_map g (list_from (suc k) (entry_count - (k + 1)) legal_entry))) (sym (kept.0 ∙ ap (λ x. keep_all (filled words n) (g x)) is))
      ∙ ap (λ x. keep_all (filled after r) (flat_map g (list_from x (entry_count - (k + 1)) legal_entry))) j

  pub no-entry-left : (k : ℕ) → entry_count ≤ k → f ≡ keep_all (filled words n) (logs_from g k) → f ≡ filled words n
  unfolding flat_map keep_all
  no-entry-left k h e = let z : entry_count - k ≡ 0 = omega arith in e ∙ ap (λ m. keep_all (filled words n) (flat_map g (list_from k m legal_entry))) z

-- ---- all of them at once

-- where there is no room nothing goes in
none-fits : (words : List ℕ) (n : ℕ) (logs : List (List ℕ)) → length words ≤ 2 * n + 1 → keep_all (filled words n) logs ≡ filled words n
unfolding keep_all
none-fits words n [] h = refl
none-fits words n (es ∷ logs) h = ap (λ f. keep_all f logs) (keep-full words n es h) ∙ none-fits words n logs h

-- behind what a slice holds, the two next words set
set-two :
    (front : List ℕ) (x y a b : ℕ) (back : List ℕ) (k : ℕ) → length front ≡ k
    → set (set (front ++ x ∷ y ∷ back) k a) (suc k) b ≡ (front ++ a ∷ b ∷ []) ++ back
set-two [] x y a b back zero e = refl
set-two [] x y a b back (suc k) e = absurd (omega arith)
set-two (z ∷ front) x y a b back zero e = absurd (omega arith)
set-two (z ∷ front) x y a b back (suc k) e = ap (λ (l : List ℕ). z ∷ l) (set-two front x y a b back k (omega arith))

-- what goes in behind `front` where `back` is left
module _ (front : List ℕ) (n : ℕ) where
  abbrev with-logs : List ℕ → List (List ℕ) → Filled
  with-logs back shown = filled (front ++ (flat_map two_slots shown ++ drop (2 * length shown) back)) (n + length shown)

  abbrev poured : List ℕ → List (List ℕ) → Filled
  poured back logs = with-logs back (take (length back / 2) logs)

  poured-none : (back : List ℕ) (shown : List (List ℕ)) → shown ≡ [] → with-logs back shown ≡ filled (front ++ back) n
  unfolding flat_map
  poured-none back shown h =
      let z : n + 0 ≡ n = omega arith in
      let e : with-logs back [] ≡ filled (front ++ back) n = ap (filled (front ++ back)) z in
      ap (with-logs back) h ∙ e

poured-more : (front : List ℕ) (n : ℕ) (es : List ℕ) (x y : ℕ) (back : List ℕ) (logs : List (List ℕ))
    → poured (front ++ two_slots es) (suc n) back logs ≡ poured front n (x ∷ y ∷ back) (es ∷ logs)
unfolding flat_map
poured-more front n es x y back logs =
    let half : suc (length back / 2) ≡ suc (suc (length back)) / 2 = omega arith in
    go (take (length back / 2) logs) ∙ ap (λ m. with-logs front n (x ∷ y ∷ back) (take m (es ∷ logs))) half
  where
    go : (shown : List (List ℕ)) → with-logs (front ++ two_slots es) (suc n) back shown ≡ with-logs front n (x ∷ y ∷ back) (es ∷ shown)
    go shown =
        let two : suc (suc (2 * length shown)) ≡ 2 * suc (length shown) = omega arith in
        let next : suc n + length shown ≡ n + suc (length shown) = omega arith in
        ap (λ (l : List ℕ). filled l (suc n + length shown)) (append_assoc front (two_slots es) (flat_map two_slots shown ++ drop (2 * length shown) back)
        ∙ ap (λ d. front ++ (two_slots es ++ (flat_map two_slots shown ++ drop d (x ∷ y ∷ back)))) two)
        ∙ ap (filled _) next

pours : (logs : List (List ℕ)) (front : List ℕ) (n : ℕ) (back : List ℕ) → length front ≡ 2 * n
    → keep_all (filled (front ++ back) n) logs ≡ poured front n back (kept logs)
unfolding keep_all kept
pours [] front n back e = sym (poured-none front n back _ (take_none (length back / 2)))
pours (es ∷ logs) front n [] e =
    none-fits (front ++ []) n (es ∷ logs) (omega (arith, length-append front [], e)) ∙ sym (poured-none front n [] _ refl)
pours (es ∷ logs) front n (x ∷ []) e =
    none-fits (front ++ x ∷ []) n (es ∷ logs) (omega (arith, length-append front (x ∷ []), e)) ∙ sym (poured-none front n (x ∷ []) _ refl)
pours (es ∷ logs) front n (x ∷ y ∷ back) e = go (accepts es) refl (pours logs front n (x ∷ y ∷ back) e)
    (pours logs (front ++ two_slots es) (suc n) back (omega (arith, length-append front (two_slots es), e)))
  where
    two-set : set (set (front ++ x ∷ y ∷ back) (2 * n) (get_or es 0 0)) (2 * n + 1) (get_or es 1 0) ≡ (front ++ two_slots es) ++ back
    two-set =
        let s : 2 * n + 1 ≡ suc (2 * n) = omega arith in
        ap (λ k. set (set (front ++ x ∷ y ∷ back) (2 * n) (get_or es 0 0)) k (get_or es 1 0)) s
        ∙ set-two front x y (get_or es 0 0) (get_or es 1 0) back (2 * n) e

    go : (t : Bool) → accepts es ≡ t → keep_all (filled (front ++ x ∷ y ∷ back) n) logs ≡ poured front n (x ∷ y ∷ back) (kept logs)
        → keep_all (filled ((front ++ two_slots es) ++ back) (suc n)) logs ≡ poured (front ++ two_slots es) (suc n) back (kept logs)
        → keep_all (keep (filled (front ++ x ∷ y ∷ back) n) es) logs ≡ poured front n (x ∷ y ∷ back) (kept (es ∷ logs))
    go true a without more =
        let done : keep (filled (front ++ x ∷ y ∷ back) n) es ≡ filled ((front ++ two_slots es) ++ back) (suc n) =
        keep-done (front ++ x ∷ y ∷ back) n es (omega (arith, length-append front (x ∷ y ∷ back), e)) a ∙ ap (λ l. filled l (suc n)) two-set in
        ap (λ f. keep_all f logs) done ∙ more ∙ poured-more front n es x y back (kept logs) ∙ ap (poured front n (x ∷ y ∷ back)) (sym (kept-yes es logs a))
    go false a without more =
        ap (λ f. keep_all f logs) (keep-refused (front ++ x ∷ y ∷ back) n es a) ∙ without ∙ ap (poured front n (x ∷ y ∷ back)) (sym (kept-no es logs a))

-- the empty log, those of one entry, those of two
pub all-filled :
    (before none ones after : List ℕ) (n m r : ℕ) → Keeps ((0 ∷ 0 ∷ []) ∷ []) before 0 none n → Keeps (one_more []) none n ones m
    → Keeps pairs ones m after r → Fills legal_logs before after r
unfolding tried legal_logs keep_all
all-filled before none ones after n m r a b c =
    let all : filled after r ≡ keep_all (filled before 0) tried =
    c.0 ∙ ap (λ f. keep_all f pairs) (b.0 ∙ ap (λ f. keep_all f (one_more [])) (a.0 ∙ keep-none (filled before 0)))
    ∙ sym (all_append (keep (filled before 0) []) (one_more []) pairs) in
    let e = all ∙ pours tried [] 0 before (omega arith) in
    (ap (λ (f : Filled). f.words) e, ap (λ (f : Filled). f.count) e ∙ omega arith)
