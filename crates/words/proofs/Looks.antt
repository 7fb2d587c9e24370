-- What a look at a map word shows: how far its blocks are free, where one is taken, and where the next stretch that may be long enough starts.
use mathlib.Core.Path.{◌≡◌, sym, ap, ◌∙◌}
use mathlib.Core.Logic.{◌⊎◌, inl, inr}
use mathlib.Core.List.{List}
use mathlib.Core.Bool.{Bool, true, false}
use Prim.Native.Nat.{ℕ, zero, suc, ◌+◌, ◌-◌, ◌*◌, ◌/◌, ◌%◌, ◌^◌, ◌≤◌, ◌<◌, min}
use native.Mathlib.Decide.{dec_lt}
use native.Mathlib.Omega.{arith}
use lib.Dec.{eqb}
use lib.ListN.{get_or}
use Rattle.words.specs.BlockMap.{taken}
use Rattle.words.specs.Look.{from_bit, blocked_in, Whole, Begins, Resumes, Blocked}
use Rattle.words.specs.Word.{bits}
use Rattle.words.proofs.BlockMap.{taken-past}
use Rattle.words.proofs.Tests.{no_true}
use Rattle.words.proofs.Zeros.{not-bit, inside, Lowest, zeros-from, Near, near, clear-ahead, behind-one, blocked-lt}

-- for each block from a to before c
abbrev pub Each : (ℕ → Type 0) → ℕ → ℕ → Type 0
Each P a c = (b : ℕ) → a ≤ b → b < c → P b

-- to b, and from there to c
pub onward : (P : ℕ → Type 0) (a b c : ℕ) → Each P a b → Each P b c → Each P a c
onward P a b c h g x lo hi = go (dec_lt x b)
  where
    go : Dec (x < b) → P x
    go (yes l) = h x lo l
    go (no l) = g x (omega arith) hi

-- these blocks are all taken, or all free
abbrev pub Same : List ℕ → Bool → ℕ → ℕ → Type 0
Same map x = Each (λ b. taken map b ≡ x)

-- a taken block is not a free one
pub behind-free : (map : List ℕ) (a b : ℕ) → a ≤ b → taken map a ≡ false → taken map b ≡ true → a < b
behind-free map a b l f h = go (dec_lt a b)
  where
    go : Dec (a < b) → a < b
    go (yes k) = k
    go (no k) = let e : b ≡ a = omega arith in absurd (no_true (rw e at h) f)

-- a block is a bit of its word
taken_at : (map : List ℕ) (k j : ℕ) → j < 64 → taken map (64 * k + j) ≡ eqb (bits (get_or map k 0) j 1) 1
unfolding taken
taken_at map k j l =
    let q : (64 * k + j) / 64 ≡ k = omega arith in
    let r : (64 * k + j) % 64 ≡ j = omega arith in
    rw (q, r)

-- a free block that is behind a taken one, or block 1
pub unheld : (map : List ℕ) (s : ℕ) → taken map s ≡ false → Resumes map s → Begins map s
unheld map s f (inl b) = b
unheld map s f (inr h) = absurd (no_true h f)

module _ (map : List ℕ) (k low : ℕ) where
  abbrev w : ℕ
  w = get_or map k 0

  free-at : (j : ℕ) → j < 64 → bits w j 1 ≡ 0 → taken map (64 * k + j) ≡ false
  free-at j l e = taken_at map k j l ∙ ap (λ (x : ℕ). eqb x 1) e

  held_at : (j : ℕ) → j < 64 → bits w j 1 ≡ 1 → taken map (64 * k + j) ≡ true
  held_at j l e = taken_at map k j l ∙ ap (λ (x : ℕ). eqb x 1) e

  free-to : (c : ℕ) → c ≤ 64 → Each (λ j. bits w j 1 ≡ 0) low c → Same map false (64 * k + low) (64 * k + c)
  free-to c l h b lo hi =
      let e : 64 * k + (b - 64 * k) ≡ b = omega arith in
      rw (← e) (free-at (b - 64 * k) (omega arith) (h (b - 64 * k) (omega arith) (omega arith)))

  -- ---- to the end of a stretch

  pub all-free : (x : ℕ) → x ≡ from_bit w low → x ≡ 0 → Same map false (64 * k + low) (64 * k + 64)
  all-free x e z = free-to 64 (omega arith) (λ j lo hi. zeros-from w low x e z j lo)

  module _ (j : ℕ) (l : Lowest w low j) where
    pub free-before : Same map false (64 * k + low) (64 * k + j)
    free-before = free-to j (omega (arith, l.less)) l.zeros

    pub held-there : taken map (64 * k + j) ≡ true
    held-there = held_at j l.less l.one

  -- ---- to the next start

  module _ (n : ℕ) (fits : w < 2 ^ 64) where
    abbrev m : ℕ
    m = min (n - 1) 2

    abbrev clear : ℕ
    clear = 2 ^ 64 - 1 - blocked_in w m

    sum : (i : ℕ) → i < 64 → bits clear i 1 + bits (blocked_in w m) i 1 ≡ 1
    sum i l = not-bit 64 (blocked_in w m) i (blocked-lt w m fits) l

    blocked-at : (i : ℕ) → i < 64 → bits clear i 1 ≡ 0 → Blocked map n (64 * k + i)
    blocked-at i l e = go (near w m i (omega (arith, sum i l, e)))
      where
        go : Near w m i → Blocked map n (64 * k + i)
        go r = record {
          at = 64 * k + (i + r.by);
          from = omega arith;
          near = at r.by r.few;
          is_taken = held_at (i + r.by) (inside w (i + r.by) fits r.one) r.one;
        }
          where
            at : (d : ℕ) → d ≤ m → (64 * k + (i + d) ≡ 64 * k + i) ⊎ (64 * k + (i + d) < 64 * k + i + n)
            at zero h = inl (omega arith)
            at (suc d) h = inr (omega arith)

    -- up to a bit
    blocked-to : (c : ℕ) → c ≤ 64 → Each (λ i. bits clear i 1 ≡ 0) low c → Each (Blocked map n) (64 * k + low) (64 * k + c)
    blocked-to c l h x lo hi =
        let e : 64 * k + (x - 64 * k) ≡ x = omega arith in
        rw (← e) (blocked-at (x - 64 * k) (omega arith) (h (x - 64 * k) (omega arith) (omega arith)))

    -- a start in this word
    module _ (j : ℕ) (l : Lowest clear low j) where
      pub blocked-before : Each (Blocked map n) (64 * k + low) (64 * k + j)
      blocked-before = blocked-to j (omega (arith, l.less)) l.zeros

      clear-there : bits (blocked_in w m) j 1 ≡ 0
      clear-there = omega (arith, sum j l.less, l.one)

      pub free-there : taken map (64 * k + j) ≡ false
      free-there = free-at j l.less (ap (λ (x : ℕ). bits w x 1) (omega arith) ∙ clear-ahead w m j 0 clear-there (omega arith))

      pub begins-there : Resumes map (64 * k + low) → Begins map (64 * k + j)
      begins-there b = go (dec_lt low j)
        where
          go : Dec (low < j) → Begins map (64 * k + j)
          go (yes h) =
              let e : suc (j - 1) ≡ j = omega arith in
              let q : 64 * k + (j - 1) ≡ 64 * k + j - 1 = omega arith in
              let z = l.zeros (j - 1) (omega arith) (omega arith) in
              let one : bits (blocked_in w m) (j - 1) 1 ≡ 1 = omega (arith, sum (j - 1) (omega (arith, l.less)), z) in
              inr (rw (← q) (held_at (j - 1) (omega (arith, l.less))
              (behind-one w m (j - 1) one (ap (λ (x : ℕ). bits (blocked_in w m) x 1) e ∙ clear-there))))
          go (no h) = let e : low ≡ j = omega (arith, l.from) in unheld map (64 * k + j) free-there (rw e at b)

    -- none in this word
    module _ (x : ℕ) (e : x ≡ from_bit clear low) (z : x ≡ 0) (less : low < 64) where
      pub blocked-all : Each (Blocked map n) (64 * k + low) (64 * k + 64)
      blocked-all = blocked-to 64 (omega arith) (λ i lo hi. zeros-from clear low x e z i lo)

      pub begins-behind : Begins map (64 * (k + 1) + 0)
      begins-behind = go (near w m 63 (omega (arith, sum 63 (omega arith), zeros-from clear low x e z 63 (omega arith))))
        where
          go : Near w m 63 → Begins map (64 * (k + 1) + 0)
          go r =
              let h = inside w (63 + r.by) fits r.one in
              let q : 63 + r.by ≡ 63 = omega arith in
              let p : 64 * (k + 1) + 0 - 1 ≡ 64 * k + 63 = omega arith in
              inr (rw p (held_at 63 (omega arith) (ap (λ (y : ℕ). bits w y 1) (sym q) ∙ r.one)))

-- no map word is left: what lies behind them is free, or past the last block
pub free-behind : (map : List ℕ) (blocks words k b : ℕ) → Whole map blocks words → words ≤ k → 64 * k ≤ b → b < blocks → taken map b ≡ false
free-behind map blocks words k b e l lo hi = taken-past map b (omega arith)
