-- What the searches of the faults find, where there is something to find: the first number that is not 0, the first test that fails, the first bad
-- log block, the first byte that is not 0. Each law says that the place is inside, and what stands there.
use mathlib.Core.Path.{◌≡◌, refl, sym, subst}
use mathlib.Core.Logic.{◌≢◌}
use mathlib.Core.Bool.{Bool, true, false, not}
use mathlib.Core.List.{List, [], ◌∷◌}
use Prim.Native.Nat.{ℕ, zero, suc, ◌+◌, ◌-◌, ◌≤◌, ◌<◌}
use native.Mathlib.Omega.{arith}
use lib.Dec.{eqb}
use lib.ListN.{length, get_or, take, drop}
use borrow.Author.Tests.{eq-eqb}
use Rattle.words.specs.Logic.{is_zero, some_of, all_of, up_to_zero, member, every, up_from}
use Rattle.words.specs.Memory.{Memory, block_at, byte_in}
use Rattle.words.proofs.Choice.{choose-true, choose-false}
use Rattle.words.proofs.Tests.{no_true, or-2, not-no}
use Rattle.block_log.specs.Chain.{bad_log_block}
use Rattle.inspection.specs.Faults.{zeros_ahead, first_bad, first_broken, first_byte}

-- ---- numbers that are not 0

-- a list that is not all zeros
pub zeros-found : (xs : List ℕ) → all_of is_zero xs ≡ false → (zeros_ahead xs < length xs) × (get_or xs (zeros_ahead xs) 0 ≢ 0)
unfolding zeros_ahead
zeros-found [] h = absurd (no_true refl h)
zeros-found (zero ∷ xs) h = let r = zeros-found xs h in (omega (arith, r.0), r.1)
zeros-found (suc x ∷ xs) h = (omega arith, λ z. omega arith)

-- a number behind the first zero: its place, and that a zero stands before it
pub record Behind (xs : List ℕ) (k : ℕ) : Type 0 where
  pub inside : k < length xs
  pub some : get_or xs k 0 ≢ 0
  pub late : some_of is_zero (take k xs) ≡ true

pub behind-found : (xs : List ℕ) → all_of is_zero (drop (length (up_to_zero xs)) xs) ≡ false
    → Behind xs (length (up_to_zero xs) + zeros_ahead (drop (length (up_to_zero xs)) xs))
unfolding zeros_ahead
behind-found [] h = absurd (no_true refl h)
behind-found (zero ∷ xs) h =
    let r = zeros-found xs h in
    let e : 0 + suc (zeros_ahead xs) ≡ suc (zeros_ahead xs) = omega arith in
    rw e (record { inside = omega (arith, r.0); some = r.1; late = refl })
behind-found (suc x ∷ xs) h =
    let n = length (up_to_zero xs) in
    let r = behind-found xs h in
    let e : suc n + zeros_ahead (drop n xs) ≡ suc (n + zeros_ahead (drop n xs)) = omega arith in
    rw e (record { inside = omega (arith, r.inside); some = r.some; late = r.late })

-- a list that is not passed whole has a zero
pub zero-there : (xs : List ℕ) → length (up_to_zero xs) < length xs → some_of is_zero xs ≡ true
zero-there [] h = absurd (omega arith)
zero-there (zero ∷ xs) h = refl
zero-there (suc x ∷ xs) h = zero-there xs (omega arith)

-- ---- tests

pub record FirstFails (ts : List Bool) (r : ℕ) : Type 0 where
  pub counted : 1 ≤ r
  pub fails : get_or ts (r - 1) true ≡ false
  pub before : every (take (r - 1) ts) ≡ true

pub broken-found : (ts : List Bool) → every ts ≡ false → FirstFails ts (first_broken ts)
unfolding every first_broken
broken-found [] h = absurd (no_true refl h)
broken-found (false ∷ ts) h = record { counted = omega arith; fails = refl; before = refl }
broken-found (true ∷ ts) h = let r = broken-found ts h in more (first_broken ts) r
  where
    more : (n : ℕ) → FirstFails ts n → FirstFails (true ∷ ts) (suc n)
    more zero r = absurd (omega (arith, r.counted))
    more (suc n) r =
        let a : suc n - 1 ≡ n = omega arith in
        let b : suc (suc n) - 1 ≡ suc n = omega arith in
        record { counted = omega arith; fails = rw b (rw a at r.fails); before = rw b (rw a at r.before) }

-- ---- log blocks

pub bad-found : (m : Memory) (cs : List ℕ) → some_of (λ b. bad_log_block (block_at m b)) cs ≡ true
    → (member (first_bad m cs) cs ≡ true) × (bad_log_block (block_at m (first_bad m cs)) ≡ true)
bad-found m [] h = absurd (no_true h refl)
bad-found m (c ∷ cs) h = go (bad_log_block (block_at m c)) refl (λ k. bad-found m cs k)
  where
    go :
        (t : Bool) → bad_log_block (block_at m c) ≡ t
        → (some_of (λ b. bad_log_block (block_at m b)) cs ≡ true → (member (first_bad m cs) cs ≡ true) × (bad_log_block (block_at m (first_bad m cs)) ≡ true))
        → (member (first_bad m (c ∷ cs)) (c ∷ cs) ≡ true) × (bad_log_block (block_at m (first_bad m (c ∷ cs))) ≡ true)
    go true e ih =
        let f : first_bad m (c ∷ cs) ≡ c = unfold first_bad in (choose-true (bad_log_block (block_at m c)) c (first_bad m cs) e) in
        rw (f, eq-eqb c c refl) (refl, e)
    go false e ih =
        let f : first_bad m (c ∷ cs) ≡ first_bad m cs = unfold first_bad in (choose-false (bad_log_block (block_at m c)) c (first_bad m cs) e) in
        let r = ih (rw e at h) in
        subst (λ (k : ℕ). (member k (c ∷ cs) ≡ true) × (bad_log_block (block_at m k) ≡ true)) (sym f)
        (or-2 (eqb (first_bad m cs) c) (member (first_bad m cs) cs) r.0, r.1)

-- ---- bytes

pub byte-found : (block : List ℕ) (a n : ℕ) → some_of (λ k. not (is_zero (byte_in block k))) (up_from a n) ≡ true
    → (a ≤ first_byte block a n) × (first_byte block a n < a + n) × (not (is_zero (byte_in block (first_byte block a n))) ≡ true)
byte-found block a zero h = absurd (no_true h refl)
byte-found block a (suc n) h = go (is_zero (byte_in block a)) refl (λ k. byte-found block (suc a) n k)
  where
    go :
        (t : Bool) → is_zero (byte_in block a) ≡ t
        → (some_of (λ k. not (is_zero (byte_in block k))) (up_from (suc a) n) ≡ true
        → (suc a ≤ first_byte block (suc a) n) × (first_byte block (suc a) n < suc a + n) × (not (is_zero (byte_in block (first_byte block (suc a) n))) ≡ true))
        → (a ≤ first_byte block a (suc n)) × (first_byte block a (suc n) < a + suc n) × (not (is_zero (byte_in block (first_byte block a (suc n)))) ≡ true)
    go true e ih =
        let f : first_byte block a (suc n) ≡ first_byte block (suc a) n =
        unfold first_byte in (choose-true (is_zero (byte_in block a)) (first_byte block (suc a) n) a e) in
        let r = ih (rw e at h) in
        rw f (omega (arith, r.0), omega (arith, r.1), r.2)
    go false e ih =
        let f : first_byte block a (suc n) ≡ a = unfold first_byte in (choose-false (is_zero (byte_in block a)) (first_byte block (suc a) n) a e) in
        rw f (omega arith, omega arith, not-no (is_zero (byte_in block a)) e)
