-- Passes over a list by std's iterators: what they answer, in the words of the specs.
use mathlib.Core.Path.{◌≡◌, refl, ap}
use mathlib.Core.List.{List, [], ◌∷◌}
use mathlib.Core.Bool.{Bool, not, ◌||◌}
use Prim.Native.Nat.{ℕ, zero, suc, ◌+◌}
use native.Mathlib.Numerals.{add-one}
use native.Mathlib.Omega.{arith}
use lib.Dec.{eqb}
use lib.ListN.{take}
use borrow.Author.Tests.{ne_eqb}
use Rattle.std.specs.List.{list_any, list_all, prefix_len, range_with_len}
use Rattle.words.specs.Logic.{some_of, all_of, is_zero, up_to_zero, up_from}

pub some-any : (p : ℕ → Bool) (xs : List ℕ) → list_any p xs ≡ some_of p xs
some-any p [] = refl
some-any p (x ∷ xs) = ap (λ (t : Bool). p x || t) (some-any p xs)

-- the test for a number that is not 0, in the specs' words
pub zero-tests : (n : ℕ) → eqb n 0 ≡ is_zero n
zero-tests zero = refl
zero-tests (suc n) = ne_eqb (suc n) 0 (λ e. omega arith)

pub some-same : (p q : ℕ → Bool) (xs : List ℕ) → ((x : ℕ) → p x ≡ q x) → some_of p xs ≡ some_of q xs
some-same p q [] h = refl
some-same p q (x ∷ xs) h = rw (h x, some-same p q xs h)

-- the tests for a word that is not 0, and one that is
abbrev pub some_word : ℕ → Bool
some_word w = not (eqb w 0)

abbrev pub no_word : ℕ → Bool
no_word w = eqb w 0

pub zeros-all : (xs : List ℕ) → list_all no_word xs ≡ all_of is_zero xs
zeros-all [] = refl
zeros-all (zero ∷ xs) = zeros-all xs
zeros-all (suc x ∷ xs) = rw (ne_eqb (suc x) 0 (λ e. omega arith))

-- the words before the first that is 0
pub words-front : (xs : List ℕ) → take (prefix_len some_word xs) xs ≡ up_to_zero xs
words-front [] = refl
words-front (zero ∷ xs) = refl
words-front (suc x ∷ xs) = let e : 1 + prefix_len some_word xs ≡ suc (prefix_len some_word xs) = omega arith in
    rw (ne_eqb (suc x) 0 (λ z. omega arith), e) (ap (λ (ys : List ℕ). suc x ∷ ys) (words-front xs))

pub range-up : (i n : ℕ) → range_with_len i n ≡ up_from i n
range-up i zero = refl
range-up i (suc n) = ap (λ (xs : List ℕ). i ∷ xs) (rw add-one (range-up (suc i) n))
