-- Lists by their places, and passes over those from a place on.
use mathlib.Core.Path.{◌≡◌, refl, sym, ap, ◌∙◌}
use mathlib.Core.Bool.{Bool, true, false, ◌||◌}
use mathlib.Core.List.{List, [], ◌∷◌, ◌++◌, map}
use lib.ListN.{length, get_or, drop}
use Prim.Native.Nat.{ℕ, zero, suc, ◌+◌, ◌-◌, ◌≤◌, ◌<◌}
use native.Mathlib.Omega.{arith}
use Rattle.std.specs.List.{list_any}
use Rattle.words.specs.Logic.{list_from, some_of, member}
use Rattle.points.specs.Serving.{twice}

pub same-list {ℓ} : {A : Type ℓ} (i n : ℕ) (f g : ℕ → A) → ((j : ℕ) → i ≤ j → j < i + n → f j ≡ g j) → list_from i n f ≡ list_from i n g
same-list i zero f g h = refl
same-list i (suc n) f g h =
    ap (λ (x : _). x ∷ list_from (suc i) n f) (h i (omega arith) (omega arith))
    ∙ ap (λ (l : List _). g i ∷ l) (same-list (suc i) n f g (λ j a b. h j (omega arith) (omega arith)))

-- one more at the end
pub one_more {ℓ} : {A : Type ℓ} (i n : ℕ) (f : ℕ → A) → list_from i (suc n) f ≡ list_from i n f ++ (f (i + n) ∷ [])
one_more i zero f = let e : i + 0 ≡ i = omega arith in rw e
one_more i (suc n) f =
    let e : suc i + n ≡ i + suc n = omega arith in
    ap (λ (l : List _). f i ∷ l) (rw e at (one_more (suc i) n f))

pub one_last : {A : Type 0} (n : ℕ) (f : ℕ → A) → list_from 0 (suc n) f ≡ list_from 0 n f ++ (f n ∷ [])
one_last n f = let e : 0 + n ≡ n = omega arith in rw e at (one_more 0 n f)

-- the first of those that are left
pub one_less {ℓ} : {A : Type ℓ} (i n : ℕ) (f : ℕ → A) → i < n → list_from i (n - i) f ≡ f i ∷ list_from (suc i) (n - suc i) f
one_less i n f h = let e : n - i ≡ suc (n - suc i) = omega arith in rw e

-- ---- a list is its elements

pub later-list : {A : Type 0} (i n : ℕ) (f : ℕ → A) → list_from (suc i) n f ≡ list_from i n (λ j. f (suc j))
later-list i zero f = refl
later-list i (suc n) f = ap (λ (l : List _). f (suc i) ∷ l) (later-list (suc i) n f)

pub whole-list : {A : Type 0} (d : A) (xs : List A) → list_from 0 (length xs) (λ i. get_or xs i d) ≡ xs
whole-list d [] = refl
whole-list d (x ∷ xs) = ap (λ (l : List _). x ∷ l) (later-list 0 (length xs) (λ i. get_or (x ∷ xs) i d) ∙ whole-list d xs)

pub map-list : {A B : Type 0} (g : A → B) (i n : ℕ) (f : ℕ → A) → map g (list_from i n f) ≡ list_from i n (λ j. g (f j))
map-list g i zero f = refl
map-list g i (suc n) f = ap (λ (l : List _). g (f i) ∷ l) (map-list g (suc i) n f)

-- those from a place on
pub rest-list : {A : Type 0} (i : ℕ) (f : List A → ℕ → ℕ) → ((x : A) (xs : List A) (j : ℕ) → f (x ∷ xs) (suc j) ≡ f xs j) → (xs : List A)
    → list_from i (length xs - i) (f xs) ≡ list_from 0 (length (drop i xs)) (f (drop i xs))
rest-list zero f next xs = let e : length xs - 0 ≡ length xs = omega arith in rw e
rest-list (suc i) f next [] = let e : 0 - suc i ≡ 0 = omega arith in rw e
rest-list (suc i) f next (x ∷ xs) =
    let e : length (x ∷ xs) - suc i ≡ length xs - i = omega arith in
    rw e (later-list i (length xs - i) (f (x ∷ xs)) ∙ same-list i (length xs - i) _ _ (λ j a b. next x xs j) ∙ rest-list i f next xs)

-- whether one of these lists begins with such a number
pub some-first : (p : ℕ → Bool) (xs : List (List ℕ)) → list_any (λ (x : List ℕ). p (get_or x 0 0)) xs ≡ some_of p (list_from 0 (length xs) (λ i. get_or (get_or xs i []) 0 0))
some-first p [] = refl
some-first p (x ∷ xs) =
    ap (λ (b : Bool). p (get_or x 0 0) || b)
    (some-first p xs ∙ ap (some_of p) (sym (later-list 0 (length xs) (λ i. get_or (get_or (x ∷ xs) i []) 0 0))))

-- ---- whether one of n stands twice

module _ (f : ℕ → ℕ) (n i : ℕ) where
  pub twice-here : i < n → member (f i) (list_from (suc i) (n - suc i) f) ≡ true → twice (list_from i (n - i) f) ≡ true
  twice-here h e = rw (one_less i n f h, e)

  pub twice-later : i < n → member (f i) (list_from (suc i) (n - suc i) f) ≡ false
      → twice (list_from i (n - i) f) ≡ twice (list_from (i + 1) (n - (i + 1)) f)
  twice-later h e = let one : i + 1 ≡ suc i = omega arith in rw (one_less i n f h, e, one)

  pub twice-nowhere : n ≤ i → twice (list_from i (n - i) f) ≡ false
  twice-nowhere h = let e : n - i ≡ 0 = omega arith in rw e
