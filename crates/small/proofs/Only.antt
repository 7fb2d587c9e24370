-- Only one list has what is claimed of the legal small logs: two lists in ascending order with the same elements are one. Assumes nothing.
use Prim.Native.Nat.{ℕ, suc, ◌<◌}
use native.Mathlib.Omega.{arith}
use mathlib.Core.Path.{◌≡◌, refl, sym, ap, subst, ◌∙◌}
use mathlib.Core.Logic.{◌⊎◌, inl, inr}
use mathlib.Core.Bool.{true, false, ◌&&◌}
use mathlib.Core.List.{List, [], ◌∷◌}
use lib.ListN.{length, get_or}
use lib.Dec.{ltb, eqb}
use borrow.Author.Tests.{ltb-true, eqb-true}
use Rattle.words.proofs.Logic.{and_left, and_right}
use Rattle.words.proofs.Tests.{or_split, no_true}
use Rattle.small.specs.SmallLogs.{Among, smaller, precedes, Ascending, AllLegal}
use Rattle.small.specs.Tried.{enough}
use Rattle.small.proofs.Kept.{enough-long}

-- ---- the order is strict

smaller-once : (xs ys : List ℕ) → smaller xs ys ≡ true → smaller ys xs ≡ true → ⊥
smaller-once [] ys h g = no_true {b = false} h refl
smaller-once (x ∷ xs) [] h g = no_true {b = false} h refl
smaller-once (x ∷ xs) (y ∷ ys) h g = go (or_split _ _ h) (or_split _ _ g) (smaller-once xs ys)
  where
    go : (ltb x y ≡ true) ⊎ (eqb x y && smaller xs ys ≡ true) → (ltb y x ≡ true) ⊎ (eqb y x && smaller ys xs ≡ true)
        → (smaller xs ys ≡ true → smaller ys xs ≡ true → ⊥) → ⊥
    go (inl a) (inl b) later = omega (arith, ltb-true x y a, ltb-true y x b)
    go (inl a) (inr b) later = omega (arith, ltb-true x y a, eqb-true y x (and_left (eqb y x) (smaller ys xs) b))
    go (inr a) (inl b) later = omega (arith, eqb-true x y (and_left (eqb x y) (smaller xs ys) a), ltb-true y x b)
    go (inr a) (inr b) later = later (and_right (eqb x y) (smaller xs ys) a) (and_right (eqb y x) (smaller ys xs) b)

once : (xs ys : List ℕ) → precedes xs ys ≡ true → precedes ys xs ≡ true → ⊥
once xs ys h g = go (or_split _ _ h) (or_split _ _ g)
  where
    m : ℕ
    m = length xs

    n : ℕ
    n = length ys

    go : (ltb m n ≡ true) ⊎ (eqb m n && smaller xs ys ≡ true) → (ltb n m ≡ true) ⊎ (eqb n m && smaller ys xs ≡ true) → ⊥
    go (inl a) (inl b) = omega (arith, ltb-true m n a, ltb-true n m b)
    go (inl a) (inr b) = omega (arith, ltb-true m n a, eqb-true n m (and_left (eqb n m) (smaller ys xs) b))
    go (inr a) (inl b) = omega (arith, eqb-true m n (and_left (eqb m n) (smaller xs ys) a), ltb-true n m b)
    go (inr a) (inr b) = smaller-once xs ys (and_right (eqb m n) (smaller xs ys) a) (and_right (eqb n m) (smaller ys xs) b)

-- ---- in ascending order

tail : (l : List ℕ) (logs : List (List ℕ)) → Ascending (l ∷ logs) → Ascending logs
tail l logs s i j h g = s (suc i) (suc j) (omega arith) (omega arith)

-- where an element stands
place : (es : List ℕ) (logs : List (List ℕ)) → Among es logs → (k : ℕ) × (k < length logs) × (get_or logs k [] ≡ es)
place es [] h = absurd h
place es (l ∷ logs) (inl h) = (0, omega arith, h)
place es (l ∷ logs) (inr h) = let p = place es logs h in (suc p.0, omega (arith, p.1), p.2)

-- the first comes before each other
first : (l : List ℕ) (logs : List (List ℕ)) → Ascending (l ∷ logs) → (es : List ℕ) → Among es logs → precedes l es ≡ true
first l logs s es h =
    let p = place es logs h in
    subst (λ x. precedes l x ≡ true) p.2 (s 0 (suc p.0) (omega arith) (omega (arith, p.1)))

-- ---- one list

abbrev Within : List (List ℕ) → List (List ℕ) → Type 0
Within xs ys = (es : List ℕ) → Among es xs → Among es ys

module _ (x : List ℕ) (xs : List (List ℕ)) (y : List ℕ) (ys : List (List ℕ)) (s : Ascending (x ∷ xs)) where
  same_first : Ascending (y ∷ ys) → Among x (y ∷ ys) → Among y (x ∷ xs) → x ≡ y
  same_first t (inl e) h = sym e
  same_first t (inr g) (inl e) = e
  same_first t (inr g) (inr h) = absurd (once x y (first x xs s y h) (first y ys t x g))

  rest-within : x ≡ y → Within (x ∷ xs) (y ∷ ys) → Within xs ys
  rest-within e f es h = go (f es (inr h))
    where
      go : (y ≡ es) ⊎ Among es ys → Among es ys
      go (inl i) =
          let before : precedes x x ≡ true = subst (λ l. precedes x l ≡ true) (sym (e ∙ i)) (first x xs s es h) in
          absurd (once x x before before)
      go (inr i) = i

one_list : (xs ys : List (List ℕ)) → Ascending xs → Ascending ys → Within xs ys → Within ys xs → xs ≡ ys
one_list [] [] s t f g = refl
one_list [] (y ∷ ys) s t f g = absurd (g y (inl refl))
one_list (x ∷ xs) [] s t f g = absurd (f x (inl refl))
one_list (x ∷ xs) (y ∷ ys) s t f g =
    let e : x ≡ y = same_first x xs y ys s t (f x (inl refl)) (g y (inl refl)) in
    ap (λ (l : List ℕ). l ∷ xs) e
    ∙ ap (λ (l : List (List ℕ)). y ∷ l) (one_list xs ys (tail x xs s) (tail y ys t) (rest-within x xs y ys s e f) (rest-within y ys x xs t (sym e) g))

-- what is among one is small and accepted, so it is among the other
pub only_one : (xs ys : List (List ℕ)) → AllLegal xs → AllLegal ys → xs ≡ ys
only_one xs ys a b = one_list xs ys a.ascending b.ascending (within xs ys a b) (within ys xs b a)
  where
    within : (us vs : List (List ℕ)) → AllLegal us → AllLegal vs → Within us vs
    within us vs c d es h =
        let small = c.small es h in
        (d.exact es small enough enough-long).1 ((c.exact es small enough enough-long).0 h)
