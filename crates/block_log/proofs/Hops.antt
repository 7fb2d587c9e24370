-- Next indexes that come to an end pass fewer blocks than the image has: a block that came again would lead round for ever.
use mathlib.Core.Path.{◌≡◌, refl, sym, ap, ◌∙◌}
use mathlib.Core.Logic.{◌≢◌}
use mathlib.Core.Bool.{true, false}
use mathlib.Core.List.{List, ◌∷◌}
use Prim.Native.Nat.{ℕ, zero, suc, ◌+◌, ◌-◌, ◌≤◌, ◌<◌}
use native.Mathlib.Omega.{arith}
use native.Mathlib.Decide.{ℕ_discrete, dec_le}
use lib.Dec.{leb, eqb}
use lib.ListN.{length}
use borrow.Author.Tests.{eq-eqb, ne_eqb, leb-false}
use Rattle.words.specs.Logic.{some_of}
use Rattle.words.specs.Memory.{Memory}
use Rattle.words.proofs.Choice.{choose-true, choose-false}
use Rattle.words.proofs.Logic.{or_left, or_right}
use Rattle.block_log.specs.Chain.{next_index, chain_from, outside}
use Rattle.block_log.proofs.Chain.{chain-end}

-- ---- numbers below n that are all different are at most n

abbrev Apart : ℕ → (ℕ → ℕ) → Type 0
Apart k f = (i j : ℕ) → i < j → j ≤ k → f i ≢ f j

-- f without the value n: what had it gets the last value
abbrev without : ℕ → ℕ → (ℕ → ℕ) → ℕ → ℕ
without n k f i = elim (eqb (f i) n) [ true ↦ f (suc k) | false ↦ f i ]

module _ (n k : ℕ) (f : ℕ → ℕ) (below : (i : ℕ) → i ≤ suc k → f i < suc n) (apart : Apart (suc k) f) where
  moved : (i : ℕ) → f i ≡ n → without n k f i ≡ f (suc k)
  moved i e = choose-true (eqb (f i) n) (f (suc k)) (f i) (eq-eqb (f i) n e)

  kept : (i : ℕ) → f i ≢ n → without n k f i ≡ f i
  kept i e = choose-false (eqb (f i) n) (f (suc k)) (f i) (ne_eqb (f i) n e)

  without-below : (i : ℕ) → i ≤ k → without n k f i < n
  without-below i l = go (ℕ_discrete (f i) n)
    where
      go : Dec (f i ≡ n) → without n k f i < n
      go (yes e) =
          let other : f (suc k) ≢ n = λ z. apart i (suc k) (omega arith) (omega arith) (e ∙ sym z) in
          omega (arith, moved i e, below (suc k) (omega arith), other)
      go (no e) = omega (arith, kept i e, below i (omega arith), e)

  without-apart : Apart k (without n k f)
  without-apart i j l h same = go (ℕ_discrete (f i) n) (ℕ_discrete (f j) n)
    where
      go : Dec (f i ≡ n) → Dec (f j ≡ n) → ⊥
      go (yes a) (yes b) = apart i j l (omega arith) (a ∙ sym b)
      go (yes a) (no b) = apart j (suc k) (omega arith) (omega arith) (sym (sym (moved i a) ∙ same ∙ kept j b))
      go (no a) (yes b) = apart i (suc k) (omega arith) (omega arith) (sym (kept i a) ∙ same ∙ moved j b)
      go (no a) (no b) = apart i j l (omega arith) (sym (kept i a) ∙ same ∙ kept j b)

pub pigeonhole : (n k : ℕ) (f : ℕ → ℕ) → ((i : ℕ) → i ≤ k → f i < n) → ((i j : ℕ) → i < j → j ≤ k → f i ≢ f j) → k < n
pigeonhole zero k f below apart = omega (arith, below 0 (omega arith))
pigeonhole (suc n) zero f below apart = omega arith
pigeonhole (suc n) (suc k) f below apart =
    let l : k < n = pigeonhole n k (without n k f) (without-below n k f below apart) (without-apart n k f below apart) in
    omega arith

-- ---- next indexes

module _ (m : Memory) where
  -- the block after i next indexes
  unfoldable pub hop : ℕ → ℕ → ℕ
  hop b zero = b
  hop b (suc i) = hop (next_index m b) i

  hop-add : (b i j : ℕ) → hop b (i + j) ≡ hop (hop b i) j
  unfolding hop
  hop-add b zero j = let e : 0 + j ≡ j = omega arith in ap (hop b) e
  hop-add b (suc i) j = let e : suc i + j ≡ suc (i + j) = omega arith in ap (hop b) e ∙ hop-add (next_index m b) i j

  -- blocks that are there, all below the block count, and 0 after the last
  pub hops-few : (b k blocks : ℕ) → 0 < blocks → ((i : ℕ) → i ≤ k → (hop b i ≢ 0) × (hop b i < blocks)) → hop b (suc k) ≡ 0 → suc k < blocks
  hops-few b k blocks some on end = pigeonhole blocks (suc k) (hop b) below apart
    where
      below : (i : ℕ) → i ≤ suc k → hop b i < blocks
      below i l = go (dec_le i k)
        where
          go : Dec (i ≤ k) → hop b i < blocks
          go (yes h) = (on i h).1
          go (no h) = let e : i ≡ suc k = omega arith in rw (e, end) some

      apart : (i j : ℕ) → i < j → j ≤ suc k → hop b i ≢ hop b j
      apart i j l h same =
          let rest = suc k - j in
          let e : j + rest ≡ suc k = omega arith in
          (on (i + rest) (omega arith)).0 (hop-add b i rest ∙ ap (λ (x : ℕ). hop x rest) same ∙ sym (hop-add b j rest) ∙ ap (hop b) e ∙ end)

-- ---- the chain

module _ (m : Memory) where
  -- a chain that ends before its bound is the same for every bound that it keeps
  pub chain_same : (n b k : ℕ) → length (chain_from m n b) < n → length (chain_from m n b) ≤ k → chain_from m k b ≡ chain_from m n b
  unfolding chain_from
  chain_same zero b k l h = absurd (omega arith)
  chain_same (suc n) zero k l h = chain-end m k 0 refl
  chain_same (suc n) (suc b) zero l h = absurd (omega arith)
  chain_same (suc n) (suc b) (suc k) l h = ap (λ (bs : List ℕ). suc b ∷ bs) (chain_same n (next_index m (suc b)) k (omega arith) (omega arith))

  chain-hop : (n b blocks i : ℕ) → some_of (outside blocks) (chain_from m n b) ≡ false → i < length (chain_from m n b) → (hop m b i ≢ 0) × (hop m b i < blocks)
  unfolding chain_from hop
  chain-hop zero b blocks i e l = absurd (omega arith)
  chain-hop (suc n) zero blocks i e l = absurd (omega arith)
  chain-hop (suc n) (suc b) blocks zero e l = (λ z. omega arith, leb-false blocks (suc b) (or_left (leb blocks (suc b)) _ e))
  chain-hop (suc n) (suc b) blocks (suc i) e l = chain-hop n (next_index m (suc b)) blocks i (or_right (leb blocks (suc b)) _ e) (omega arith)

  chain-over : (n b : ℕ) → length (chain_from m n b) < n → hop m b (length (chain_from m n b)) ≡ 0
  unfolding chain_from hop
  chain-over zero b l = absurd (omega arith)
  chain-over (suc n) zero l = refl
  chain-over (suc n) (suc b) l = chain-over n (next_index m (suc b)) (omega arith)

  -- it has fewer blocks than the image
  pub chain-short : (n b blocks : ℕ) → 0 < blocks → some_of (outside blocks) (chain_from m n b) ≡ false → length (chain_from m n b) < n
      → length (chain_from m n b) < blocks
  chain-short n b blocks some inside ends = go (length (chain_from m n b)) refl
    where
      go : (k : ℕ) → length (chain_from m n b) ≡ k → k < blocks
      go zero e = some
      go (suc k) e = hops-few m b k blocks some (λ i l. chain-hop n b blocks i inside (omega arith)) (ap (hop m b) (sym e) ∙ chain-over n b ends)
