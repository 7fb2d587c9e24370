-- The longest free stretch from here on, with a row of free blocks that ends here and the best so far.
use mathlib.Core.Path.{◌≡◌, refl}
use mathlib.Core.List.{List}
use mathlib.Core.Bool.{true, false}
use Prim.Native.Nat.{ℕ, zero, suc, ◌+◌, ◌-◌, ◌≤◌, ◌<◌, max}
use native.Mathlib.Numerals.{add-one}
use native.Mathlib.Omega.{arith}
use Rattle.words.specs.BlockMap.{taken}
use Rattle.words.specs.Search.{free_ahead}
use Rattle.inspection.specs.Reading.{longest_from, longest_free}

-- the best of what was seen, of the row and what follows it, and of what comes
abbrev pub reach : List ℕ → ℕ → ℕ → ℕ → ℕ → ℕ
reach map blocks best row b = max best (max (row + free_ahead map b (blocks - b)) (longest_from map b (blocks - b)))

ahead-taken : (map : List ℕ) (b n : ℕ) → taken map b ≡ true → free_ahead map b (suc n) ≡ 0
unfolding free_ahead
ahead-taken map b n h = rw (h, free_ahead)

ahead-free : (map : List ℕ) (b n : ℕ) → taken map b ≡ false → free_ahead map b (suc n) ≡ suc (free_ahead map (suc b) n)
unfolding free_ahead
ahead-free map b n h = rw (h, free_ahead)

from_suc : (map : List ℕ) (b n : ℕ) → longest_from map b (suc n) ≡ max (free_ahead map b (suc n)) (longest_from map (suc b) n)
unfolding longest_from
from_suc map b n = refl

ahead_within : (map : List ℕ) (b n : ℕ) → free_ahead map b n ≤ longest_from map b n
unfolding free_ahead longest_from
ahead_within map b zero = omega arith
ahead_within map b (suc n) = omega arith

none_from : (map : List ℕ) (b : ℕ) → (free_ahead map b 0 ≡ 0) × (longest_from map b 0 ≡ 0)
unfolding free_ahead longest_from
none_from map b = (refl, refl)

module _ (map : List ℕ) (blocks : ℕ) where
  pub reach-start : longest_free map blocks ≡ reach map blocks 0 0 1
  unfolding longest_free
  reach-start = omega (arith, ahead_within map 1 (blocks - 1))

  pub reach-end : (best row b : ℕ) → row ≤ best → blocks ≤ b → reach map blocks best row b ≡ best
  reach-end best row b h k =
      let e : blocks - b ≡ 0 = omega arith in
      let z = none_from map b in
      rw (e, z.0, z.1) (omega arith)

  module _ (best row b : ℕ) (low : row ≤ best) (h : b < blocks) where
    module _ (row₁ best₁ : ℕ) (is : best₁ ≡ max best row₁) where
      pub reach-taken : taken map b ≡ true → row₁ ≡ 0 → reach map blocks best row b ≡ reach map blocks best₁ row₁ (b + 1)
      reach-taken t z =
          let e : blocks - b ≡ suc (blocks - (b + 1)) = omega arith in
          rw (e, from_suc map b (blocks - (b + 1)), ahead-taken map b (blocks - (b + 1)) t, add-one b)
          (omega (arith, ahead_within map (suc b) (blocks - suc b)))

      pub reach-free : taken map b ≡ false → row₁ ≡ row + 1 → reach map blocks best row b ≡ reach map blocks best₁ row₁ (b + 1)
      reach-free t z =
          let e : blocks - b ≡ suc (blocks - (b + 1)) = omega arith in
          rw (e, from_suc map b (blocks - (b + 1)), ahead-free map b (blocks - (b + 1)) t, add-one b) (omega arith)
