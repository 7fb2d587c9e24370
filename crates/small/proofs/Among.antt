-- What is an element of a list that is put together, and what holds of each element. Assumes nothing.
use Prim.Native.Nat.{ℕ, zero, suc, ◌+◌, ◌≤◌, ◌<◌}
use native.Mathlib.Decide.{dec_lt}
use native.Mathlib.Omega.{arith}
use mathlib.Core.Path.{◌≡◌, sym, ap, subst}
use mathlib.Core.Logic.{inl, inr}
use mathlib.Core.Bool.{Bool, true}
use mathlib.Core.List.{List, [], ◌∷◌, ◌++◌, map, flat_map}
use Rattle.words.specs.Logic.{all_of, list_from}
use Rattle.words.proofs.Logic.{and_left, and_right}
use Rattle.small.specs.SmallLogs.{Among}

module _ {A : Type 0} where
  pub in-front : (e : A) (xs ys : List A) → Among e xs → Among e (xs ++ ys)
  in-front e [] ys h = absurd h
  in-front e (x ∷ xs) ys (inl h) = inl h
  in-front e (x ∷ xs) ys (inr h) = inr (in-front e xs ys h)

  pub in-back : (e : A) (xs ys : List A) → Among e ys → Among e (xs ++ ys)
  in-back e [] ys h = h
  in-back e (x ∷ xs) ys h = inr (in-back e xs ys h)

  pub in_list : (f : ℕ → A) (i n k : ℕ) → i ≤ k → k < i + n → Among (f k) (list_from i n f)
  in_list f i zero k h l = absurd (omega arith)
  in_list f i (suc n) k h l = go (dec_lt i k) (λ g. in_list f (suc i) n k g (omega arith))
    where
      go : Dec (i < k) → (i < k → Among (f k) (list_from (suc i) n f)) → Among (f k) (list_from i (suc n) f)
      go (yes g) later = inr (later g)
      go (no g) later = let e : i ≡ k = omega arith in inl (ap f e)

  -- an element of a list that all pass
  pub all_among : (p : A → Bool) (e : A) (xs : List A) → all_of p xs ≡ true → Among e xs → p e ≡ true
  all_among p e [] t h = absurd h
  all_among p e (x ∷ xs) t (inl h) = subst (λ (y : A). p y ≡ true) h (and_left (p x) (all_of p xs) t)
  all_among p e (x ∷ xs) t (inr h) = all_among p e xs (and_right (p x) (all_of p xs) t) h

module _ {A B : Type 0} where
  pub in_map : (f : A → B) (x : A) (xs : List A) → Among x xs → Among (f x) (map f xs)
  in_map f x [] h = absurd h
  in_map f x (y ∷ ys) (inl h) = inl (ap f h)
  in_map f x (y ∷ ys) (inr h) = inr (in_map f x ys h)

  pub in-each : (f : A → List B) (x : A) (xs : List A) (e : B) → Among x xs → Among e (f x) → Among e (flat_map f xs)
  unfolding flat_map
  in-each f x [] e h g = absurd h
  in-each f x (y ∷ ys) e (inl h) g = in-front e (f y) (flat_map f ys) (subst (λ (z : A). Among e (f z)) (sym h) g)
  in-each f x (y ∷ ys) e (inr h) g = in-back e (f y) (flat_map f ys) (in-each f x ys e h g)
