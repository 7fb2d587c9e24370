-- The next word to fill again is found without going through the words between: a word with a copied byte, before which none is pending.
use Prim.Native.Nat.{ℕ, zero, suc, ◌+◌, ◌*◌, ◌-◌, ◌/◌, ◌%◌, ◌≤◌, ◌<◌, max}
use native.Mathlib.Omega.{arith}
use native.Mathlib.Decide.{dec_lt}
use mathlib.Core.Path.{◌≡◌, refl, sym, ap, ◌∙◌}
use mathlib.Core.Logic.{◌⊎◌, inl, inr}
use mathlib.Core.Bool.{Bool, true, false, ◌&&◌, ◌||◌, not}
use lib.Dec.{leb, ltb}
use borrow.Author.Tests.{lt-ltb, le-ltb, le-leb, ltb-true}
use Rattle.words.specs.Edition.{Edition, block_bytes}
use Rattle.words.proofs.Sizes.{sized, split-byte}
use Rattle.words.proofs.Tests.{or-1, or-2, or_split}
use Rattle.points.specs.declared.Phase.{Phase}
use Rattle.points.specs.declared.Phase.TheVariants.{Filling, RefillFirst, RefillLast, RefillBoth}
use Rattle.points.specs.declared.Write.{Write}
use Rattle.points.specs.Record.{run_words}
use Rattle.points.specs.Fill.{run_start, copies, pending, seek, next_word}
use Rattle.points.proofs.Spans.{spanned}
use Rattle.points.proofs.Seek.{seek_is, seek-none, seek-same}

module _ (E : Edition) (w : Write) where
  -- ---- a word with a copied byte

  pub copied-before : (k : ℕ) → 8 * k < w.offset % block_bytes E → copies E w k ≡ true
  copied-before k h = or-1 _ _ (lt-ltb (run_start E w + 8 * k) w.offset (omega (arith, split-byte E w.offset)))

  pub copied-after : (k : ℕ) → w.offset % block_bytes E + w.size < 8 * k + 8 → copies E w k ≡ true
  copied-after k h =
      or-2 (ltb (run_start E w + 8 * k) w.offset) _ (lt-ltb (w.offset + w.size) (run_start E w + 8 * k + 8) (omega (arith, split-byte E w.offset)))

  pub not-copied : (k : ℕ) → w.offset % block_bytes E ≤ 8 * k → 8 * k + 8 ≤ w.offset % block_bytes E + w.size → copies E w k ≡ false
  not-copied k lo hi =
      let split = split-byte E w.offset in
      rw (le-ltb (run_start E w + 8 * k) w.offset (omega arith), le-ltb (w.offset + w.size) (run_start E w + 8 * k + 8) (omega arith))

  -- from the second block on such a word ends past the text
  copied-late : (k : ℕ) → E.block_words ≤ k → copies E w k ≡ true → w.offset % block_bytes E + w.size < 8 * k + 8
  copied-late k h e = go (or_split (ltb (run_start E w + 8 * k) w.offset) (ltb (w.offset + w.size) (run_start E w + 8 * k + 8)) e)
    where
      go :
          (ltb (run_start E w + 8 * k) w.offset ≡ true) ⊎ (ltb (w.offset + w.size) (run_start E w + 8 * k + 8) ≡ true)
          → w.offset % block_bytes E + w.size < 8 * k + 8
      go (inl t) = let l = ltb-true (run_start E w + 8 * k) w.offset t in absurd (omega (arith, split-byte E w.offset))
      go (inr t) = let l = ltb-true (w.offset + w.size) (run_start E w + 8 * k + 8) t in omega (arith, split-byte E w.offset)

  -- ---- the first such word, and the next word of each phase

  abbrev pub First : ℕ → ℕ → Type 0
  First from k = (from ≤ k) × (copies E w k ≡ true) × ((y : ℕ) → from ≤ y → y < k → copies E w y ≡ false)

  pub first-here : (from : ℕ) → 8 * from < w.offset % block_bytes E → First from from
  first-here from h = (omega arith, copied-before from h, λ y i j. absurd (omega arith))

  pub first-behind : (from k : ℕ) → w.offset % block_bytes E ≤ 8 * from → k ≡ max from ((w.offset % block_bytes E + w.size) / 8) → First from k
  first-behind from k h e = (omega arith, copied-after k (omega arith), λ y i j. not-copied y (omega arith) (omega arith))

  not-pending : (t : Bool) (y : ℕ) → copies E w y ≡ false → t && copies E w y ≡ false
  not-pending true y e = e
  not-pending false y e = refl

  -- a run has a block, and its last block begins in the text
  run_some : E.block_words ≤ run_words E w
  run_some = sized (λ W U. W ≤ spanned (8 * W) w.offset w.size * W) (omega arith) E

  run-last : 1 ≤ w.size → 8 * run_words E w < w.offset % block_bytes E + w.size + block_bytes E
  run-last = sized (λ W U. 1 ≤ w.size → 8 * (spanned (8 * W) w.offset w.size * W) < w.offset % (8 * W) + w.size + 8 * W) (omega arith) E

  module _ (k : ℕ) (low : w.position ≤ run_words E w) where
    pub first_found : First w.position k → k < E.block_words → seek w.position (run_words E w - w.position) (pending RefillFirst E w) ≡ k
    first_found f h =
        seek_is w.position (run_words E w - w.position) k (pending RefillFirst E w) f.0 (omega (arith, run_some)) (rw (lt-ltb k E.block_words h) f.1)
        (λ y i j. not-pending (ltb y E.block_words) y (f.2 y i j))

    pub first_done : First w.position k → E.block_words ≤ k
        → seek w.position (run_words E w - w.position) (pending RefillFirst E w) ≡ run_words E w
    first_done f h =
        seek-none w.position (run_words E w - w.position) (pending RefillFirst E w) (λ y i j. none y i (dec_lt y E.block_words)) ∙ omega arith
      where
        none : (y : ℕ) → w.position ≤ y → Dec (y < E.block_words) → pending RefillFirst E w y ≡ false
        none y i (yes l) = not-pending (ltb y E.block_words) y (f.2 y i (omega arith))
        none y i (no l) = rw (le-ltb y E.block_words (omega arith))

    none_last : First (max w.position E.block_words) k → (y : ℕ) → w.position ≤ y → y < k → pending RefillLast E w y ≡ false
    none_last f y i j = go (dec_lt y E.block_words)
      where
        go : Dec (y < E.block_words) → pending RefillLast E w y ≡ false
        go (yes l) = rw (lt-ltb y E.block_words l)
        go (no l) = not-pending (not (ltb y E.block_words) && leb (run_words E w) (y + E.block_words)) y (f.2 y (omega arith) j)

    pub last_found :
        1 ≤ w.size → First (max w.position E.block_words) k → k < run_words E w
        → seek w.position (run_words E w - w.position) (pending RefillLast E w) ≡ k
    last_found s f h =
        let late = copied-late k (omega arith) f.1 in
        let last = run-last s in
        seek_is w.position (run_words E w - w.position) k (pending RefillLast E w) (omega arith) (omega arith)
        (rw (le-ltb k E.block_words (omega arith), le-leb (run_words E w) (k + E.block_words) (omega arith)) f.1) (none_last f)

    pub last_done :
        First (max w.position E.block_words) k → run_words E w ≤ k
        → seek w.position (run_words E w - w.position) (pending RefillLast E w) ≡ run_words E w
    last_done f h = seek-none w.position (run_words E w - w.position) (pending RefillLast E w) (λ y i j. none_last f y i (omega arith)) ∙ omega arith

    pub both_found : First w.position k → k < E.block_words → seek w.position (run_words E w - w.position) (pending RefillBoth E w) ≡ k
    both_found f h =
        seek_is w.position (run_words E w - w.position) k (pending RefillBoth E w) f.0 (omega (arith, run_some)) (rw (lt-ltb k E.block_words h) f.1)
        (λ y i j. not-pending (ltb y E.block_words || (not (ltb y E.block_words) && leb (run_words E w) (y + E.block_words))) y (f.2 y i j))

    pub both-last :
        First w.position k → E.block_words ≤ k
        → seek w.position (run_words E w - w.position) (pending RefillLast E w)
        ≡ seek w.position (run_words E w - w.position) (pending RefillBoth E w)
    both-last f h =
        seek-same w.position (run_words E w - w.position) (pending RefillLast E w) (pending RefillBoth E w) (λ y i j. same y i (dec_lt y E.block_words))
      where
        same : (y : ℕ) → w.position ≤ y → Dec (y < E.block_words) → pending RefillLast E w y ≡ pending RefillBoth E w y
        same y i (yes l) =
            let e = f.2 y i (omega arith) in
            not-pending (not (ltb y E.block_words) && leb (run_words E w) (y + E.block_words)) y e
            ∙ sym (not-pending (ltb y E.block_words || (not (ltb y E.block_words) && leb (run_words E w) (y + E.block_words))) y e)
        same y i (no l) = rw (le-ltb y E.block_words (omega arith))

  -- ---- the next word by its phase

  pub next-in : (phase : Phase) → w.phase ≡ phase → next_word E w ≡ seek w.position (run_words E w - w.position) (pending phase E w)
  unfolding next_word
  next-in phase e = ap (λ (p : Phase). seek w.position (run_words E w - w.position) (pending p E w)) e

  pub next-filling : w.phase ≡ Filling → next_word E w ≡ w.position
  unfolding seek
  next-filling e = next-in Filling e ∙ every-word w.position (run_words E w - w.position)
    where
      every-word : (a n : ℕ) → seek a n (λ k. true) ≡ a
      every-word a zero = refl
      every-word a (suc n) = refl

  pub next-none : (phase : Phase) → w.phase ≡ phase → ((k : ℕ) → pending phase E w k ≡ false) → w.position ≤ run_words E w
      → next_word E w ≡ run_words E w
  next-none phase e f low = next-in phase e ∙ seek-none w.position (run_words E w - w.position) (pending phase E w) (λ y i j. f y) ∙ omega arith
