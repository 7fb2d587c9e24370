-- The superblock, the chain and the log blocks: the tests 3 to 6 as the code makes them, and passes over the chain.
use mathlib.Core.Path.{◌≡◌, refl, subst}
use mathlib.Core.List.{List, [], ◌∷◌}
use mathlib.Core.Bool.{true, false, Bool, not, or-false}
use Prim.Native.Nat.{ℕ, zero, suc, ◌-◌, ◌+◌, ◌≤◌, ◌<◌}
use native.Mathlib.Omega.{arith}
use lib.Dec.{ltb, leb, leb-suc-suc}
use lib.ListN.{length, get_or, drop, length-drop}
use lib.Seq.{drop-drop}
use borrow.Author.Tests.{eq-eqb, ltb-true, ne_eqb, lt-ltb, lt-leb, leb-false}
use Rattle.words.specs.Edition.{Edition, chain_max}
use Rattle.words.specs.Logic.{is_zero, some_of, all_of, any, up_to_zero}
use Rattle.words.specs.Memory.{Memory, block_at, word_at}
use Rattle.block_log.specs.Chain.{first_index, next_index, chain_from, chain, bad_superblock, bad_index, endless, bad_log_block, outside}
use Rattle.words.proofs.Logic.{or_left, or_right, agree}
use Rattle.words.proofs.MapOf.{Below}
use Rattle.words.proofs.Tests.{is-zero, not-zero}

-- ---- passes over the chain

module _ (m : Memory) where
  pub chain-end : (n b : ℕ) → b ≡ 0 → chain_from m n b ≡ []
  unfolding chain_from
  chain-end zero b e = refl
  chain-end (suc n) zero e = refl
  chain-end (suc n) (suc b) e = absurd (omega arith)

  pub chain-none : (n b : ℕ) → n ≤ 0 → chain_from m n b ≡ []
  unfolding chain_from
  chain-none zero b h = refl
  chain-none (suc n) b h = absurd (omega arith)

  pub chain_next : (n b : ℕ) → 0 < n → (b ≡ 0 → ⊥) → chain_from m n b ≡ b ∷ chain_from m (n - 1) (next_index m b)
  unfolding chain_from
  chain_next zero b h ne = absurd (omega arith)
  chain_next (suc n) zero h ne = absurd (ne refl)
  chain_next (suc n) (suc b) h ne = let e : suc n - 1 ≡ n = omega arith in rw e

  module _ (p : ℕ → Bool) (n b : ℕ) where
    pub links-hit : 0 < n → (b ≡ 0 → ⊥) → p b ≡ true → some_of p (chain_from m n b) ≡ true
    links-hit h ne e = rw (chain_next n b h ne, e)

-- its indexes and a bound that none of them reaches
module _ (m : Memory) (n b : ℕ) where
  pub links-below : (k : ℕ) → 0 < n → (b ≡ 0 → ⊥) → some_of (outside k) (chain_from m n b) ≡ false → b < k
  links-below k h ne e = leb-false k b (or_left (leb k b) _ (rw (chain_next m n b h ne) at e))

  pub links-rest :
      (k : ℕ) → 0 < n → (b ≡ 0 → ⊥) → some_of (outside k) (chain_from m n b) ≡ false
      → some_of (outside k) (chain_from m (n - 1) (next_index m b)) ≡ false
  links-rest k h ne e = or_right (leb k b) _ (rw (chain_next m n b h ne) at e)

-- the chain's indexes are not 0
abbrev pub Positive : List ℕ → Type 0
Positive [] = Unit
Positive (b ∷ bs) = (b ≡ 0 → ⊥) × Positive bs

pub chain-positive : (m : Memory) (n b : ℕ) → Positive (chain_from m n b)
unfolding chain_from
chain-positive m zero b = tt
chain-positive m (suc n) zero = tt
chain-positive m (suc n) (suc b) = (λ e. omega arith, chain-positive m n (next_index m (suc b)))

-- no pass over the chain is longer than was asked
pub chain-length : (m : Memory) (n b : ℕ) → length (chain_from m n b) ≤ n
unfolding chain_from
chain-length m zero b = omega arith
chain-length m (suc n) zero = omega arith
chain-length m (suc n) (suc b) = omega (arith, chain-length m n (next_index m (suc b)))

-- what such a pass gives is no 0
pub chain-first : (m : Memory) (n i b : ℕ) (bs : List ℕ) → chain_from m n i ≡ b ∷ bs → b ≡ 0 → ⊥
chain-first m n i b bs e = (subst Positive e (chain-positive m n i)).0

pub outside_below : (xs : List ℕ) → some_of (outside 1024) xs ≡ false → Below xs
outside_below [] h = tt
outside_below (x ∷ xs) h =
    (leb-false 1024 x (or_left (leb 1024 x) (some_of (outside 1024) xs) h), outside_below xs (or_right (leb 1024 x) (some_of (outside 1024) xs) h))

pub inside-outside : (k l : ℕ) (xs : List ℕ) → k ≤ l → some_of (outside k) xs ≡ false → some_of (outside l) xs ≡ false
inside-outside k l [] le h = refl
inside-outside k l (x ∷ xs) le h =
    let a : x < k = leb-false k x (or_left (leb k x) (some_of (outside k) xs) h) in
    rw (lt-leb l x (omega arith)) (inside-outside k l xs le (or_right (leb k x) (some_of (outside k) xs) h))

-- ---- 3 and 4

pub super-mark : (E : Edition) (m : Memory) → (word_at m 0 0 ≡ E.mark → ⊥) → bad_superblock E m ≡ true
unfolding bad_superblock any
super-mark E m h = rw (ne_eqb (word_at m 0 0) E.mark h)

pub super-zeros : (E : Edition) (m : Memory) → word_at m 0 0 ≡ E.mark → bad_superblock E m ≡ not (all_of is_zero (drop 2 (block_at m 0)))
unfolding bad_superblock any
super-zeros E m h = rw (eq-eqb (word_at m 0 0) E.mark h) (or-false (not (all_of is_zero (drop 2 (block_at m 0)))))

pub index-none : (blocks : ℕ) (m : Memory) → first_index m ≡ 0 → bad_index blocks m ≡ true
unfolding bad_index any
index-none blocks m h = rw (is-zero (first_index m) h)

pub index-some : (blocks : ℕ) (m : Memory) → (first_index m ≡ 0 → ⊥) → bad_index blocks m ≡ some_of (outside blocks) (chain m)
unfolding bad_index any
index-some blocks m h = rw (not-zero (first_index m) h) (or-false (some_of (outside blocks) (chain m)))

-- ---- 5, step by step

module _ (m : Memory) where
  pub endless-start : endless m ≡ ltb chain_max (length (chain_from m (suc chain_max) (first_index m)))
  unfolding endless
  endless-start = refl

  pub endless-on :
      (n b : ℕ) → 0 < n → (b ≡ 0 → ⊥)
      → ltb n (length (chain_from m (suc n) b)) ≡ ltb (n - 1) (length (chain_from m (suc (n - 1)) (next_index m b)))
  endless-on zero b h ne = absurd (omega arith)
  endless-on (suc n) b h ne =
      let e : suc n - 1 ≡ n = omega arith in
      let e2 : suc (suc n) - 1 ≡ suc n = omega arith in
      rw (chain_next m (suc (suc n)) b (omega arith) ne, e, e2) (leb-suc-suc (suc n) (length (chain_from m (suc n) (next_index m b))))

-- ---- 6

module _ (block : List ℕ) where
  pub block-word : (get_or block 1 0 ≡ 0 → ⊥) → bad_log_block block ≡ true
  unfolding bad_log_block any
  block-word h = rw (not-zero (get_or block 1 0) h)

  module _ (z : get_or block 1 0 ≡ 0) (t : ℕ) (et : t ≡ 2 + length (up_to_zero (drop 2 block))) where
    rest-is : drop (length (up_to_zero (drop 2 block))) (drop 2 block) ≡ drop t block
    rest-is = rw et (drop-drop (length (up_to_zero (drop 2 block))) 2 block)

    short : ltb (length (up_to_zero (drop 2 block))) (length (drop 2 block)) ≡ ltb t (length block)
    short =
        let d : length (drop 2 block) ≡ length block - 2 = length-drop 2 block in
        agree (ltb (length (up_to_zero (drop 2 block))) (length (drop 2 block))) (ltb t (length block))
        (λ e. let l : length (up_to_zero (drop 2 block)) < length (drop 2 block) = ltb-true _ _ e in lt-ltb t (length block) (omega arith))
        (λ e. let l : t < length block = ltb-true _ _ e in lt-ltb (length (up_to_zero (drop 2 block))) (length (drop 2 block)) (omega arith))

    pub block-dirty : all_of is_zero (drop t block) ≡ false → bad_log_block block ≡ true
    unfolding bad_log_block any
    block-dirty h = rw (is-zero (get_or block 1 0) z, rest-is, h)

    pub block_last : all_of is_zero (drop t block) ≡ true → get_or block 0 0 ≡ 0 → bad_log_block block ≡ false
    unfolding bad_log_block any
    block_last h n = rw (is-zero (get_or block 1 0) z, rest-is, h, is-zero (get_or block 0 0) n)

    pub block-linked : all_of is_zero (drop t block) ≡ true → (get_or block 0 0 ≡ 0 → ⊥) → bad_log_block block ≡ ltb t (length block)
    unfolding bad_log_block any
    block-linked h n = rw (is-zero (get_or block 1 0) z, rest-is, h, not-zero (get_or block 0 0) n, short) (or-false (ltb t (length block)))
