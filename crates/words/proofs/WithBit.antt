-- A word with one bit set or cleared: its bits, by halving, and that `|` and `&` with a shifted 1 compute it.
use mathlib.Core.Path.{◌≡◌, refl, sym, ap, ◌∙◌}
use mathlib.Core.Logic.{◌≢◌}
use mathlib.Core.Bool.{Bool, true, false}
use Prim.Native.Nat.{ℕ, zero, suc, ◌+◌, ◌*◌, ◌-◌, ◌/◌, ◌%◌, ◌^◌, ◌≤◌, ◌<◌}
use native.Mathlib.Decide.{ℕ_discrete}
use native.Mathlib.Nat.{one-mul, zero-mul, add-zero, sub-zero, mod-lt}
use native.Mathlib.Omega.{arith}
use lib.Bits.{bit_or, bit_and, or_lt}
use lib.Dec.{eqb}
use lib.Pow.{pow-add, mod-pow-add, split}
use Rattle.words.specs.BlockMap.{with_bit}
use Rattle.words.specs.Word.{bits, bit}
use Rattle.words.proofs.Choice.{upd, upd_same, upd_other}
use Rattle.words.proofs.Word.{Digit, off, on, bit-digit, bit-zero, bit-suc, with_field, bit-set, cleared-in}

-- adding or taking away 2 ^ (j + 1) is doing so with 2 ^ j at half the number, and leaves the lowest bit
pub double : (j : ℕ) → 2 ^ suc j ≡ 2 * 2 ^ j
double j = let e : suc j ≡ 1 + j = omega arith in rw (e, pow-add 2 1 j)

plus-half : (w j : ℕ) → (w + 2 ^ suc j) / 2 ≡ w / 2 + 2 ^ j
plus-half w j = rw (double j) (omega arith)

minus-half : (w j : ℕ) → (w - 2 ^ suc j) / 2 ≡ w / 2 - 2 ^ j
minus-half w j = rw (double j) (omega arith)

plus-low : (w j : ℕ) → (w + 2 ^ suc j) % 2 ≡ w % 2
plus-low w j = rw (double j) (omega arith)

-- a number with bit j set is at least 2 ^ j
pub bit_le : (w j : ℕ) → bits w j 1 ≡ 1 → 2 ^ j ≤ w
bit_le w zero h = omega arith
bit_le w (suc j) h = let r : 2 ^ j ≤ w / 2 = bit_le (w / 2) j (rw bit-suc at h) in rw (double j) (omega arith)

minus-low : (w j : ℕ) → 2 ^ suc j ≤ w → (w - 2 ^ suc j) % 2 ≡ w % 2
minus-low w j = rw (double j) (λ h. omega arith)

-- setting bit j
set_same : (w j : ℕ) → bits w j 1 ≡ 0 → bits (w + 2 ^ j) j 1 ≡ 1
set_same w zero h = omega arith
set_same w (suc j) h = rw (bit-suc (w + 2 ^ suc j) j, plus-half w j) (set_same (w / 2) j (rw bit-suc at h))

set_other : (w j k : ℕ) → bits w j 1 ≡ 0 → k ≢ j → bits (w + 2 ^ j) k 1 ≡ bits w k 1
set_other w zero zero h ne = absurd (ne refl)
set_other w zero (suc k) h ne = rw (bit-suc (w + 2 ^ 0) k, bit-suc w k) (ap (λ (x : ℕ). bits x k 1) (omega arith))
set_other w (suc j) zero h ne = rw (bit-zero (w + 2 ^ suc j), bit-zero w, plus-low w j)
set_other w (suc j) (suc k) h ne =
    rw (bit-suc (w + 2 ^ suc j) k, bit-suc w k, plus-half w j) (set_other (w / 2) j k (rw bit-suc at h) (λ e. ne (ap suc e)))

-- clearing bit j
clear-same : (w j : ℕ) → bits w j 1 ≡ 1 → bits (w - 2 ^ j) j 1 ≡ 0
clear-same w zero h = omega arith
clear-same w (suc j) h = rw (bit-suc (w - 2 ^ suc j) j, minus-half w j) (clear-same (w / 2) j (rw bit-suc at h))

clear-other : (w j k : ℕ) → bits w j 1 ≡ 1 → k ≢ j → bits (w - 2 ^ j) k 1 ≡ bits w k 1
clear-other w zero zero h ne = absurd (ne refl)
clear-other w zero (suc k) h ne = rw (bit-suc (w - 2 ^ 0) k, bit-suc w k) (ap (λ (x : ℕ). bits x k 1) (omega arith))
clear-other w (suc j) zero h ne = rw (bit-zero (w - 2 ^ suc j), bit-zero w, minus-low w j (bit_le w (suc j) h))
clear-other w (suc j) (suc k) h ne =
    rw (bit-suc (w - 2 ^ suc j) k, bit-suc w k, minus-half w j) (clear-other (w / 2) j k (rw bit-suc at h) (λ e. ne (ap suc e)))

-- ---- the definition

pub with_bit-same : (x : Bool) (w j : ℕ) → bit (with_bit x w j) j ≡ x
unfolding with_bit
with_bit-same true w j = go (bits w j 1) (bit-digit w j) refl
  where
    go : (d : ℕ) → Digit d → bits w j 1 ≡ d → bit (with_bit true w j) j ≡ true
    go zero off e = rw (e, one-mul) (ap (λ (n : ℕ). eqb n 1) (set_same w j e))
    go (suc zero) on e = rw (e, zero-mul, add-zero, e)
    go (suc (suc _)) x6 e = elim x6 [ ]
with_bit-same false w j = go (bits w j 1) (bit-digit w j) refl
  where
    go : (d : ℕ) → Digit d → bits w j 1 ≡ d → bit (with_bit false w j) j ≡ false
    go zero off e = rw (e, zero-mul, sub-zero, e)
    go (suc zero) on e = rw (e, one-mul) (ap (λ (n : ℕ). eqb n 1) (clear-same w j e))
    go (suc (suc _)) x6 e = elim x6 [ ]

pub with_bit-other : (x : Bool) (w j k : ℕ) → k ≢ j → bit (with_bit x w j) k ≡ bit w k
unfolding with_bit
with_bit-other true w j k ne = go (bits w j 1) (bit-digit w j) refl
  where
    go : (d : ℕ) → Digit d → bits w j 1 ≡ d → bit (with_bit true w j) k ≡ bit w k
    go zero off e = rw (e, one-mul) (ap (λ (n : ℕ). eqb n 1) (set_other w j k e ne))
    go (suc zero) on e = rw (e, zero-mul, add-zero)
    go (suc (suc _)) x7 e = elim x7 [ ]
with_bit-other false w j k ne = go (bits w j 1) (bit-digit w j) refl
  where
    go : (d : ℕ) → Digit d → bits w j 1 ≡ d → bit (with_bit false w j) k ≡ bit w k
    go zero off e = rw (e, zero-mul, sub-zero)
    go (suc zero) on e = rw (e, one-mul) (ap (λ (n : ℕ). eqb n 1) (clear-other w j k e ne))
    go (suc (suc _)) x7 e = elim x7 [ ]

-- as a function of the bit
pub bit-view : (x : Bool) (w n k : ℕ) → bit (with_bit x w n) k ≡ upd (bit w) n x k
bit-view x w n k = go (ℕ_discrete k n)
  where
    go : Dec (k ≡ n) → bit (with_bit x w n) k ≡ upd (bit w) n x k
    go (yes e) = rw e (with_bit-same x w n ∙ sym (upd_same (bit w) n x))
    go (no m) = with_bit-other x w n k m ∙ sym (upd_other (bit w) n x k m)

-- ---- the code

-- a word as what stands above bit j, the bit, and what stands below
parts : (w j : ℕ) → w ≡ w / 2 ^ (1 + j) * 2 ^ (1 + j) + (bits w j 1 * 2 ^ j + w % 2 ^ j)
parts w j = sym (split w (1 + j)) ∙ ap (λ (x : ℕ). w / 2 ^ (1 + j) * 2 ^ (1 + j) + x) (mod-pow-add w 1 j)

pub bit-is-set : (W w j : ℕ) → j < W → bit_or w (1 * 2 ^ j % 2 ^ W) ≡ with_bit true w j
unfolding with_bit with_field
bit-is-set W w j f = bit-set W j w f ∙ go (bits w j 1) (bit-digit w j) refl
  where
    go : (d : ℕ) → Digit d → bits w j 1 ≡ d → with_field 1 j w 1 ≡ with_bit true w j
    go zero off e = let p = rw e at (parts w j) in rw e (omega arith)
    go (suc zero) on e = let p = rw e at (parts w j) in rw e (omega arith)
    go (suc (suc _)) x5 e = elim x5 [ ]

pub bit-is-cleared : (W w j : ℕ) → j < W → w < 2 ^ W → bit_and w (2 ^ W - 1 - 1 * 2 ^ j % 2 ^ W) ≡ with_bit false w j
unfolding with_bit
bit-is-cleared W w j f l = cleared-in W 1 j w (omega arith) l ∙ go (bits w j 1) (bit-digit w j) refl
  where
    go : (d : ℕ) → Digit d → bits w j 1 ≡ d → w / 2 ^ (1 + j) * 2 ^ (1 + j) + w % 2 ^ j ≡ with_bit false w j
    go zero off e = let p = rw e at (parts w j) in rw e (omega arith)
    go (suc zero) on e = let p = rw e at (parts w j) in rw e (omega arith)
    go (suc (suc _)) x5 e = elim x5 [ ]

pub with_bit-lt : (w j : ℕ) → w < 2 ^ 64 → j < 64 → with_bit true w j < 2 ^ 64
with_bit-lt w j h l = rw (← bit-is-set 64 w j l) (or_lt 64 w (1 * 2 ^ j % 2 ^ 64) h (mod-lt (1 * 2 ^ j) (omega arith)))
