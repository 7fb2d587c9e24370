-- The word that a step tells is the one that it stored. Assumes nothing.
use Prim.Native.Nat.{ℕ, zero, suc}
use mathlib.Core.Path.{◌≡◌, refl, ap}
use mathlib.Core.List.{List, [], ◌∷◌}
use mathlib.Core.Option.{Option, none, some}
use lib.ListN.{get_or, set}
use Rattle.words.specs.Edition.{one}
use Rattle.words.specs.Memory.{Store, after}
use Rattle.points.specs.Plan.{stored_at}
use Rattle.c_served.specs.Served.{TellsStore}

-- a list with one place set, by that place alone
set-by-place : (xs : List ℕ) (k x : ℕ) → set xs k x ≡ set xs k (get_or (set xs k x) k 0)
set-by-place [] k x = refl
set-by-place (y ∷ ys) zero x = refl
set-by-place (y ∷ ys) (suc k) x = ap (λ zs. y ∷ zs) (set-by-place ys k x)

-- its first place set to what it holds
set_first : (xs : List ℕ) → xs ≡ set xs 0 (get_or xs 0 0)
set_first [] = refl
set_first (x ∷ xs) = refl

pub tells-store : (words : List ℕ) (store : Option Store) → (stored_at one store ≡ 0 → store ≡ none)
    → TellsStore words (after one words store) (stored_at one store)
unfolding after stored_at
tells-store words none at = record { only = set_first words; none = λ _. refl }
tells-store words (some s) at = record { only = set-by-place words _ s.value; none = λ z. ap (after one words) (at z) }
