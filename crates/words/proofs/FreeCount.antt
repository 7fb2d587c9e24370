-- The free count: ones counted word by word are the taken blocks below, and the free ones are the rest.
use mathlib.Core.Path.{◌≡◌, refl, sym, ap, ap₂, ◌∙◌}
use mathlib.Core.List.{List}
use mathlib.Core.Bool.{Bool, not}
use Prim.Native.Nat.{ℕ, zero, suc, ◌+◌, ◌-◌, ◌*◌, ◌/◌, ◌%◌, ◌^◌, ◌<◌, ◌≤◌, min}
use native.Mathlib.Nat.{mod-lt, mod-one, mod-eq_of_lt, add_comm, add-zero, add-suc, add_assoc, one-mul}
use native.Mathlib.Numerals.{one-add}
use native.Mathlib.Omega.{arith}
use lib.Bits.{bit_and, and_mask}
use lib.Count.{ones, ones_cat, ones-le}
use lib.Dec.{eqb}
use lib.ListN.{length, get_or, get_or-eq_default}
use lib.Pow.{pow_pos, pow-lt, mod-pow-add}
use Rattle.words.specs.BlockMap.{taken, free_count}
use Rattle.words.specs.Logic.{one_if, count_from}
use Rattle.words.specs.Word.{bits}
use Rattle.words.proofs.Word.{Digit, off, on, bit-digit, bit-none}

-- a bit counts itself
ones_bit : (r : ℕ) → r < 2 → ones r ≡ r
unfolding ones
ones_bit zero h = refl
ones_bit (suc zero) h = refl
ones_bit (suc (suc r)) h = absurd (omega arith)

bits_below : ℕ → ℕ → ℕ
bits_below w zero = zero
bits_below w (suc n) = bits_below w n + bits w n 1

ones_low : (w n : ℕ) → ones (w % 2 ^ n) ≡ bits_below w n
unfolding bits_below ones
ones_low w zero = rw mod-one
ones_low w (suc n) =
    ap ones (ap (λ (e : ℕ). w % 2 ^ e) (sym (one-add n)) ∙ mod-pow-add w 1 n)
    ∙ ones_cat n (bits w n 1) (w % 2 ^ n) (mod-lt w (pow_pos n))
    ∙ ap₂ (λ (x y : ℕ). x + y) (ones_bit (bits w n 1) (mod-lt (w / 2 ^ n) (pow_pos 1))) (ones_low w n)
    ∙ add_comm (bits w n 1) (bits_below w n)

-- the mask of n bits, and the ones under it
pub low_mask : (n : ℕ) → n < 64 → (1 ≤ 1 * 2 ^ n % 2 ^ 64) × (1 * 2 ^ n % 2 ^ 64 ≡ 2 ^ n)
low_mask n h =
    let l : 2 ^ n < 2 ^ 64 = pow-lt h in
    let p : 0 < 2 ^ n = pow_pos n in
    let e : 1 * 2 ^ n % 2 ^ 64 ≡ 2 ^ n = rw one-mul (mod-eq_of_lt l) in
    (rw e p, e)

pub low_ones : (w n : ℕ) → n < 64 → (ones (bit_and w (1 * 2 ^ n % 2 ^ 64 - 1)) ≡ ones (w % 2 ^ n)) × (ones (bit_and w (1 * 2 ^ n % 2 ^ 64 - 1)) ≤ n)
low_ones w n h =
    let e : bit_and w (1 * 2 ^ n % 2 ^ 64 - 1) ≡ w % 2 ^ n = rw (low_mask n h).1 (and_mask w n) in
    rw e (refl, ones-le n (w % 2 ^ n) (mod-lt w (pow_pos n)))

-- how many blocks below n are taken
unfoldable pub taken_below : List ℕ → ℕ → ℕ
taken_below map zero = 0
taken_below map (suc n) = taken_below map n + bits (get_or map (n / 64) 0) (n % 64) 1

below_word : (m : List ℕ) (k n : ℕ) → n ≤ 64 → taken_below m (64 * k + n) ≡ taken_below m (64 * k) + bits_below (get_or m k 0) n
unfolding taken_below bits_below
below_word m k zero h = ap (taken_below m) (add-zero (64 * k)) ∙ sym (add-zero (taken_below m (64 * k)))
below_word m k (suc n) h =
    let q : (64 * k + n) / 64 ≡ k = omega arith in
    let r : (64 * k + n) % 64 ≡ n = omega arith in
    ap (taken_below m) (add-suc (64 * k) n)
    ∙ ap₂ (λ (x y : ℕ). x + y) (below_word m k n (omega arith)) (ap₂ (λ (i j : ℕ). bits (get_or m i 0) j 1) q r)
    ∙ add_assoc (taken_below m (64 * k)) (bits_below (get_or m k 0) n) (bits (get_or m k 0) n 1)

-- some of one more word of the map
taken_more : (m : List ℕ) (k n : ℕ) → n ≤ 64 → taken_below m (64 * k + n) ≡ taken_below m (64 * k) + ones (get_or m k 0 % 2 ^ n)
taken_more m k n h = below_word m k n h ∙ ap (λ (x : ℕ). taken_below m (64 * k) + x) (sym (ones_low (get_or m k 0) n))

count-more : (i n : ℕ) (p : ℕ → Bool) → count_from i (suc n) p ≡ count_from i n p + one_if (p (i + n))
count-more i zero p = let e : i + 0 ≡ i = omega arith in rw e (omega arith)
count-more i (suc n) p =
    let e : i + suc n ≡ suc i + n = omega arith in
    let h : count_from (suc i) (suc n) p ≡ count_from (suc i) n p + one_if (p (suc i + n)) = count-more (suc i) n p in
    rw e (omega arith)

free_one : (d : ℕ) → Digit d → one_if (not (eqb d 1)) + d ≡ 1
free_one zero off = refl
free_one (suc zero) on = refl
free_one (suc (suc _)) x4 = elim x4 [ ]

-- the free blocks and the taken ones are all
free-taken : (map : List ℕ) (n : ℕ) → free_count map n + taken_below map n ≡ n
unfolding free_count taken_below taken
free-taken map zero = refl
free-taken map (suc n) =
    let d : ℕ = bits (get_or map (n / 64) 0) (n % 64) 1 in
    let h : count_from 0 n (λ b. not (taken map b)) + taken_below map n ≡ n = free-taken map n in
    let z : 0 + n ≡ n = omega arith in
    let one : one_if (not (eqb d 1)) + d ≡ 1 = free_one d (bit-digit (get_or map (n / 64) 0) (n % 64)) in
    rw (count-more 0 n (λ b. not (taken map b)), z) (omega arith)

-- one more word counted: n of its bits, the lesser of 64 and what is left of the blocks
pub count-step :
    (m : List ℕ) (blocks k left n r free : ℕ) → left ≡ blocks - 64 * k → n ≡ min left 64 → r ≡ ones (get_or m k 0 % 2 ^ n) → r ≤ n
    → left ≤ free
    → free + taken_below m (blocks - left) ≡ blocks → free - r + taken_below m (blocks - (left - n)) ≡ blocks
count-step m blocks k zero n r free e en er le lf h =
    let a : blocks - (zero - n) ≡ blocks - zero = omega arith in
    rw a (omega arith)
count-step m blocks k (suc l) n r free e en er le lf h =
    let a : blocks - suc l ≡ 64 * k = omega arith in
    let b : blocks - (suc l - n) ≡ 64 * k + n = omega arith in
    let t : taken_below m (64 * k + n) ≡ taken_below m (64 * k) + ones (get_or m k 0 % 2 ^ n) = taken_more m k n (omega arith) in
    let g : free + taken_below m (64 * k) ≡ blocks = rw a at h in
    rw b (omega arith)

-- past the map nothing is taken
below-past : (m : List ℕ) (d : ℕ) → taken_below m (64 * length m + d) ≡ taken_below m (64 * length m)
unfolding taken_below
below-past m zero = ap (taken_below m) (add-zero (64 * length m))
below-past m (suc d) =
    let e : 64 * length m + suc d ≡ suc (64 * length m + d) = omega arith in
    let z : get_or m ((64 * length m + d) / 64) 0 ≡ 0 = get_or-eq_default m 0 (omega arith) in
    rw (e, taken_below, z, bit-none ((64 * length m + d) % 64), add-zero) (below-past m d)

-- all words counted
pub count-end : (m : List ℕ) (blocks k left free : ℕ) → length m ≤ k → k ≤ length m → left ≡ blocks - 64 * k
    → free + taken_below m (blocks - left) ≡ blocks → free ≡ free_count m blocks
count-end m blocks k zero free g h e i =
    let a : blocks - zero ≡ blocks = omega arith in
    let f : free_count m blocks + taken_below m blocks ≡ blocks = free-taken m blocks in
    let j : free + taken_below m blocks ≡ blocks = rw a at i in
    omega arith
count-end m blocks k (suc l) free g h e i =
    let a : blocks - suc l ≡ 64 * length m = omega arith in
    let b : 64 * length m + suc l ≡ blocks = omega arith in
    let p : taken_below m blocks ≡ taken_below m (64 * length m) = rw b at (below-past m (suc l)) in
    let f : free_count m blocks + taken_below m blocks ≡ blocks = free-taken m blocks in
    let j : free + taken_below m (64 * length m) ≡ blocks = rw a at i in
    omega arith

pub free-small : (map : List ℕ) (n : ℕ) → free_count map n ≤ n
free-small map n = omega (arith, free-taken map n)
