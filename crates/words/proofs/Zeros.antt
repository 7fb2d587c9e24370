-- Words by their bits: the lowest one from a bit on and the zeros below it, and the bits from which a one is near.
use mathlib.Core.Path.{◌≡◌, refl, sym, ap, ◌∙◌}
use mathlib.Core.Logic.{◌≢◌}
use Prim.Native.Nat.{ℕ, zero, suc, ◌+◌, ◌-◌, ◌*◌, ◌/◌, ◌%◌, ◌^◌, ◌≤◌, ◌<◌, max}
use native.Mathlib.Decide.{dec_lt, dec_le}
use native.Mathlib.Nat.{mul_assoc, div-mul-le_self, lt_of_le_of_lt, le_trans, not-le_of_lt, mod-eq_of_lt}
use native.Mathlib.Omega.{arith}
use lib.Bits.{bit_or, or_lt, or_step, or_shr, shifted_even}
use lib.Count.{count_trailing_zeros, under}
use lib.Pow.{pow-add, pow_mono, shr-shr, shl-shr}
use Rattle.words.specs.Look.{from_bit, blocked_in}
use Rattle.words.specs.Word.{bits}
use Rattle.words.proofs.Word.{Digit, off, on, bit-digit, bit-zero, bit-suc, bit-none}
use Rattle.words.proofs.WithBit.{double, bit_le}

-- ---- a word

-- the bits below its lowest one, and that one
below : (k n i : ℕ) → i < count_trailing_zeros k n → bits n i 1 ≡ 0
unfolding count_trailing_zeros
below zero n i h = absurd (omega arith)
below (suc k) n i h = go (n % 2) refl i h (λ j l. below k (n / 2) j l)
  where
    go : (d : ℕ) → n % 2 ≡ d → (i : ℕ) → i < under d (count_trailing_zeros k (n / 2))
        → ((j : ℕ) → j < count_trailing_zeros k (n / 2) → bits (n / 2) j 1 ≡ 0)
        → bits n i 1 ≡ 0
    go zero e zero l r = bit-zero n ∙ e
    go zero e (suc i) l r = bit-suc n i ∙ r i (omega arith)
    go (suc d) e i l r = absurd (omega arith)

lowest : (k n : ℕ) → count_trailing_zeros k n < k → bits n (count_trailing_zeros k n) 1 ≡ 1
unfolding count_trailing_zeros
lowest zero n h = absurd (omega arith)
lowest (suc k) n h = go (n % 2) refl h (λ l. lowest k (n / 2) l)
  where
    go : (d : ℕ) → n % 2 ≡ d → under d (count_trailing_zeros k (n / 2)) < suc k
        → (count_trailing_zeros k (n / 2) < k → bits (n / 2) (count_trailing_zeros k (n / 2)) 1 ≡ 1)
        → bits n (under d (count_trailing_zeros k (n / 2))) 1 ≡ 1
    go zero e l r = bit-suc n (count_trailing_zeros k (n / 2)) ∙ r (omega arith)
    go (suc d) e l r = bit-zero n ∙ omega arith

-- a word that is not 0 has one
some_one : (k n : ℕ) → n ≢ 0 → n < 2 ^ k → count_trailing_zeros k n < k
unfolding count_trailing_zeros
some_one zero n ne l = absurd (ne (omega arith))
some_one (suc k) n ne l = go (n % 2) refl (λ m b. some_one k (n / 2) m b)
  where
    half : n / 2 < 2 ^ k
    half = let e = double k in omega (arith, e)

    go : (d : ℕ) → n % 2 ≡ d → (n / 2 ≢ 0 → n / 2 < 2 ^ k → count_trailing_zeros k (n / 2) < k) → under d (count_trailing_zeros k (n / 2)) < suc k
    go zero e r = let h = r (λ z. ne (omega arith)) half in omega arith
    go (suc d) e r = omega arith

-- all but a word's bits
pub not-bit : (k x i : ℕ) → x < 2 ^ k → i < k → bits (2 ^ k - 1 - x) i 1 + bits x i 1 ≡ 1
not-bit zero x i l h = absurd (omega arith)
not-bit (suc k) x zero l h = let d = double k in omega (arith, d)
not-bit (suc k) x (suc i) l h =
    let d = double k in
    let f : (2 ^ suc k - 1 - x) / 2 ≡ 2 ^ k - 1 - x / 2 = omega (arith, d) in
    let r = not-bit k (x / 2) i (omega (arith, d)) (omega arith) in
    rw (bit-suc (2 ^ suc k - 1 - x) i, bit-suc x i, f) r

-- a one lies inside the word
pub inside : (w i : ℕ) → w < 2 ^ 64 → bits w i 1 ≡ 1 → i < 64
inside w i fits e = go (dec_lt i 64)
  where
    go : Dec (i < 64) → i < 64
    go (yes h) = h
    go (no h) = absurd (not-le_of_lt fits (le_trans (pow_mono {i = 64} {j = i} (omega arith)) (bit_le w i e)))

-- without its bits below bit j
from-same : (w j i : ℕ) → j ≤ i → bits (from_bit w j) i 1 ≡ bits w i 1
unfolding from_bit
from-same w j i h =
    let e : i ≡ j + (i - j) = omega arith in
    ap (λ (x : ℕ). bits (w / 2 ^ j * 2 ^ j) x 1) e ∙ ap (λ (x : ℕ). x % 2 ^ 1)
    (sym (shr-shr (w / 2 ^ j * 2 ^ j) j (i - j)) ∙ ap (λ (x : ℕ). x / 2 ^ (i - j)) (shl-shr (w / 2 ^ j) j) ∙ shr-shr w j (i - j))
    ∙ ap (λ (x : ℕ). bits w x 1) (sym e)

from-none : (w j i : ℕ) → i < j → bits (from_bit w j) i 1 ≡ 0
unfolding from_bit
from-none w j i h =
    let d = j - suc i in
    let e : j ≡ suc d + i = omega arith in
    let p : 2 ^ j ≡ 2 ^ suc d * 2 ^ i = ap (λ (x : ℕ). 2 ^ x) e ∙ pow-add 2 (suc d) i in
    ap (λ (x : ℕ). w / 2 ^ j * x / 2 ^ i % 2) p ∙ ap (λ (x : ℕ). x / 2 ^ i % 2) (sym (mul_assoc (w / 2 ^ j) (2 ^ suc d) (2 ^ i)))
    ∙ ap (λ (x : ℕ). x % 2) (shl-shr (w / 2 ^ j * 2 ^ suc d) i) ∙ shifted_even (w / 2 ^ j) d

-- shifted down and up again, a word loses these and nothing else
pub shifted_back : (w j : ℕ) → w < 2 ^ 64 → (w / 2 ^ j * 2 ^ j % 2 ^ 64 ≡ from_bit w j) × (w / 2 ^ j * 2 ^ j % 2 ^ 64 < 2 ^ 64)
unfolding from_bit
shifted_back w j l =
    let less : w / 2 ^ j * 2 ^ j < 2 ^ 64 = lt_of_le_of_lt (div-mul-le_self w (2 ^ j)) l in
    let e = mod-eq_of_lt less in
    (e, rw e less)

-- its lowest one
pub record Lowest (w low j : ℕ) : Type 0 where
  pub from : low ≤ j
  pub less : j < 64
  pub one : bits w j 1 ≡ 1
  pub zeros : (i : ℕ) → low ≤ i → i < j → bits w i 1 ≡ 0

pub lowest-is : (w low x : ℕ) → x ≡ from_bit w low → x < 2 ^ 64 → x ≢ 0 → Lowest w low (count_trailing_zeros 64 x)
lowest-is w low x e fits ne = record {
  from = from;
  less = less;
  one = sym (same (count_trailing_zeros 64 x) from) ∙ one;
  zeros = λ i lo hi. sym (same i lo) ∙ below 64 x i hi;
}
  where
    less : count_trailing_zeros 64 x < 64
    less = some_one 64 x ne fits

    one : bits x (count_trailing_zeros 64 x) 1 ≡ 1
    one = lowest 64 x less

    same : (i : ℕ) → low ≤ i → bits x i 1 ≡ bits w i 1
    same i lo = ap (λ (y : ℕ). bits y i 1) e ∙ from-same w low i lo

    from : low ≤ count_trailing_zeros 64 x
    from = go (dec_le low (count_trailing_zeros 64 x))
      where
        go : Dec (low ≤ count_trailing_zeros 64 x) → low ≤ count_trailing_zeros 64 x
        go (yes h) = h
        go (no h) =
            let z = ap (λ (y : ℕ). bits y (count_trailing_zeros 64 x) 1) e ∙ from-none w low (count_trailing_zeros 64 x) (omega arith) in absurd (omega (arith, one, z))

-- no one is left
pub zeros-from : (w low x : ℕ) → x ≡ from_bit w low → x ≡ 0 → (i : ℕ) → low ≤ i → bits w i 1 ≡ 0
zeros-from w low x e z i lo = sym (from-same w low i lo) ∙ ap (λ (y : ℕ). bits y i 1) (sym e ∙ z) ∙ bit-none i

-- ---- bits from which a run ends

low_or : (a b : ℕ) → bit_or a b % 2 ≡ max (a % 2) (b % 2)
low_or a b = let e = or_step a b in let h : max (a % 2) (b % 2) < 2 = omega arith in rw e (omega arith)

or-bit : (a b i : ℕ) → bits (bit_or a b) i 1 ≡ max (bits a i 1) (bits b i 1)
or-bit a b i = ap (λ (x : ℕ). x % 2) (or_shr a b i) ∙ low_or (a / 2 ^ i) (b / 2 ^ i)

blocked-next : (w m i : ℕ) → bits (blocked_in w (suc m)) i 1 ≡ max (bits (blocked_in w m) i 1) (bits (blocked_in w m) (suc i) 1)
unfolding blocked_in
blocked-next w m i = or-bit (blocked_in w m) (blocked_in w m / 2) i ∙ ap (λ (x : ℕ). max (bits (blocked_in w m) i 1) x) (sym (bit-suc (blocked_in w m) i))

-- a one within the next m bits
pub record Near (w m i : ℕ) : Type 0 where
  pub by : ℕ
  pub few : by ≤ m
  pub one : bits w (i + by) 1 ≡ 1

pub near : (w m i : ℕ) → bits (blocked_in w m) i 1 ≡ 1 → Near w m i
unfolding blocked_in
near w zero i e = record { by = 0; few = omega arith; one = ap (λ (x : ℕ). bits w x 1) (omega arith) ∙ e }
near w (suc m) i e = go (bits (blocked_in w m) i 1) (bit-digit (blocked_in w m) i) refl (λ f. near w m i f) (λ f. near w m (suc i) f)
  where
    go : (d : ℕ) → Digit d → bits (blocked_in w m) i 1 ≡ d → (bits (blocked_in w m) i 1 ≡ 1 → Near w m i)
        → (bits (blocked_in w m) (suc i) 1 ≡ 1 → Near w m (suc i)) → Near w (suc m) i
    go one on f here next = let r = here f in record { by = r.by; few = omega (arith, r.few); one = r.one }
    go zero off f here next =
        let r = next (omega (arith, blocked-next w m i, e, f)) in
        record { by = suc r.by; few = omega (arith, r.few); one = ap (λ (x : ℕ). bits w x 1) (omega arith) ∙ r.one }

-- and none where the bit is clear
pub clear-ahead : (w m i d : ℕ) → bits (blocked_in w m) i 1 ≡ 0 → d ≤ m → bits w (i + d) 1 ≡ 0
unfolding blocked_in
clear-ahead w zero i d e l = ap (λ (x : ℕ). bits w x 1) (omega arith) ∙ e
clear-ahead w (suc m) i zero e l = clear-ahead w m i 0 (omega (arith, blocked-next w m i, e)) (omega arith)
clear-ahead w (suc m) i (suc d) e l =
    ap (λ (x : ℕ). bits w x 1) (omega arith) ∙ clear-ahead w m (suc i) d (omega (arith, blocked-next w m i, e)) (omega arith)

-- where a clear bit stands behind one that is not, that one is the word's
pub behind-one : (w m i : ℕ) → bits (blocked_in w m) i 1 ≡ 1 → bits (blocked_in w m) (suc i) 1 ≡ 0 → bits w i 1 ≡ 1
behind-one w m i e z = go (near w m i e)
  where
    go : Near w m i → bits w i 1 ≡ 1
    go r = at r.by r.few r.one
      where
        at : (d : ℕ) → d ≤ m → bits w (i + d) 1 ≡ 1 → bits w i 1 ≡ 1
        at zero l h = ap (λ (x : ℕ). bits w x 1) (omega arith) ∙ h
        at (suc d) l h =
            let q : i + suc d ≡ suc i + d = omega arith in
            absurd (omega (arith, ap (λ (x : ℕ). bits w x 1) (sym q) ∙ h, clear-ahead w m (suc i) d z (omega arith)))

pub blocked-lt : (w m : ℕ) → w < 2 ^ 64 → blocked_in w m < 2 ^ 64
unfolding blocked_in
blocked-lt w zero l = l
blocked-lt w (suc m) l = let h = blocked-lt w m l in or_lt 64 (blocked_in w m) (blocked_in w m / 2) h (omega arith)
