-- What is lent: the sizes of the writes, their texts, and 26.
use mathlib.Core.Path.{◌≡◌, refl, sym, ap}
use mathlib.Core.Bool.{Bool, true, false, ◌&&◌}
use mathlib.Core.List.{List, [], ◌∷◌}
use Prim.Native.Nat.{ℕ, suc, ◌+◌, ◌≤◌, ◌<◌}
use native.Mathlib.Omega.{arith}
use lib.ListN.{length, get_or, drop, drop_of_length-le}
use lib.Dec.{eqb}
use lib.Seq.{drop-cons}
use borrow.Author.Tests.{eq-eqb, ne_eqb, eqb-true}
use Rattle.words.specs.Logic.{every}
use Rattle.words.proofs.Logic.{agree}
use Rattle.dispatch.specs.Dispatch.{size_of, sizes_of, requests_of, lent_for_each}

-- one write more
pub sizes-next : (writes : List (List ℕ)) (i : ℕ) → i < length writes
    → sizes_of (drop i writes) ≡ size_of (get_or writes i []) + sizes_of (drop (i + 1) writes)
sizes-next writes i h = let one : i + 1 ≡ suc i = omega arith in rw one (ap sizes_of (drop-cons writes i [] h))

-- as many requests as writes
pub requests-are : (writes : List (List ℕ)) (bytes : List ℕ) → length (requests_of writes bytes) ≡ length writes
requests-are [] bytes = refl
requests-are (w ∷ ws) bytes = ap suc (requests-are ws (drop (size_of w) bytes))

-- none is left
pub sizes-none : (writes : List (List ℕ)) (i : ℕ) → length writes ≤ i → sizes_of (drop i writes) ≡ 0
sizes-none writes i h = ap sizes_of (drop_of_length-le writes h)

-- two equations that hold together, as tests
pub as-tests : (a b c d : ℕ) → (a ≡ b → c ≡ d) → (c ≡ d → a ≡ b) → eqb a b ≡ eqb c d
as-tests a b c d to back = agree (eqb a b) (eqb c d) (λ e. eq-eqb c d (to (eqb-true a b e))) (λ e. eq-eqb a b (back (eqb-true c d e)))

-- ---- 26: what is lent is not one write for each

module _ (n answers : ℕ) (writes : List (List ℕ)) (bytes : ℕ) where
  pub not-answers : (answers ≡ n → ⊥) → false ≡ lent_for_each n answers writes bytes
  unfolding lent_for_each every
  not-answers h = sym (rw (ne_eqb answers n h))

  pub not-writes : answers ≡ n → (length writes ≡ n → ⊥) → false ≡ lent_for_each n answers writes bytes
  unfolding lent_for_each every
  not-writes e h = sym (rw (eq-eqb answers n e, ne_eqb (length writes) n h))

  pub but-sizes : answers ≡ n → length writes ≡ n → eqb (sizes_of writes) bytes ≡ lent_for_each n answers writes bytes
  unfolding lent_for_each every
  but-sizes e f = sym (rw (eq-eqb answers n e, eq-eqb (length writes) n f) (and-true (eqb (sizes_of writes) bytes)))
    where
      and-true : (b : Bool) → (b && true) ≡ b
      and-true true = refl
      and-true false = refl
