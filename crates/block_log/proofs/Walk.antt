-- The walk from a log place to the tail: one law for each way it goes on or ends; what it reads is the rest of the log, two entries fewer to a full
-- block than the block has words.
use mathlib.Core.Path.{◌≡◌, ◌∙◌, sym, refl, ap}
use mathlib.Core.List.{List, [], ◌++◌, append-nil}
use mathlib.Core.Bool.{true, false}
use Prim.Native.Nat.{ℕ, zero, suc, ◌-◌, ◌+◌, ◌≤◌, ◌<◌, ◌*◌, ◌/◌, ◌^◌, max}
use native.Mathlib.Decide.{dec_le}
use native.Mathlib.Omega.{arith}
use lib.ListN.{length, drop, length-drop, length-append}
use borrow.Author.Tests.{le-ltb, lt-ltb}
use Rattle.words.specs.Edition.{Edition}
use Rattle.words.specs.Logic.{up_to_zero}
use Rattle.words.specs.Memory.{Memory, memory, block_at}
use Rattle.block_log.specs.CatchUp.{Walk, ended, following, walk_in, walk}
use Rattle.block_log.specs.Chain.{next_index, chain_from, entries_from, slots_of}
use Rattle.words.proofs.Sizes.{sized}
use Rattle.words.proofs.Logic.{up_to_zero-append, up_to_zero-le, up_to_zero-stops, up_to_zero-full}
use Rattle.words.proofs.Memory.{block-outside, block-length}
use Rattle.block_log.proofs.Chain.{chain-end}

-- ---- one turn

-- the entries of one log block from slot i on
abbrev pub here : Memory → ℕ → ℕ → List ℕ
here m b i = entries_from i (block_at m b)

module _ (E : Edition) (m : Memory) (blocks b i : ℕ) where
  abbrev es : List ℕ
  es = here m b i

  abbrev from-here : ℕ → Walk
  from-here room = walk E m blocks room b i

  pub walk-stop : (room : ℕ) → i + length es < E.block_words → from-here room ≡ ended es b (i + length es) true
  unfolding walk walk_in
  walk-stop zero h = rw (lt-ltb _ _ h, walk, walk_in)
  walk-stop (suc room) h = rw (lt-ltb _ _ h, walk, walk_in)

  pub walk-last : (room : ℕ) → E.block_words ≤ i + length es → next_index m b ≡ 0 → from-here room ≡ ended es b (i + length es) true
  unfolding walk walk_in
  walk-last zero h n = rw (le-ltb _ _ h, walk, walk_in, n)
  walk-last (suc room) h n = rw (le-ltb _ _ h, walk, walk_in, n)

  pub walk-full : (x : ℕ) → E.block_words ≤ i + length es → next_index m b ≡ suc x → from-here 0 ≡ ended es b (i + length es) false
  unfolding walk walk_in
  walk-full x h n = rw (le-ltb _ _ h, walk, walk_in, n)

  pub walk-out :
      (room x : ℕ) → E.block_words ≤ i + length es → next_index m b ≡ suc x → blocks ≤ suc x
      → from-here (suc room) ≡ ended es b (i + length es) false
  unfolding walk walk_in
  walk-out room x h n o = rw (le-ltb _ _ h, walk, walk_in, n, le-ltb (suc x) blocks o)

  pub walk-on :
      (room x : ℕ) → E.block_words ≤ i + length es → next_index m b ≡ suc x → suc x < blocks
      → from-here (suc room) ≡ following es (walk E m blocks room (suc x) 2)
  unfolding walk walk_in
  walk-on room x h n o = rw (le-ltb _ _ h, walk, walk_in, n, lt-ltb (suc x) blocks o)

-- ---- all turns

-- a property of walks, one fact for each way a walk goes on or ends in the block where it begins
pub record Ways (E : Edition) (m : Memory) (blocks : ℕ) (P : ℕ → ℕ → ℕ → Walk → Type 0) : Type 0 where
  pub stop : (room b i : ℕ) → i + length (here m b i) < E.block_words → P room b i (ended (here m b i) b (i + length (here m b i)) true)
  pub last :
      (room b i : ℕ) → E.block_words ≤ i + length (here m b i) → next_index m b ≡ 0
      → P room b i (ended (here m b i) b (i + length (here m b i)) true)
  pub full :
      (b i x : ℕ) → E.block_words ≤ i + length (here m b i) → next_index m b ≡ suc x → P 0 b i (ended (here m b i) b (i + length (here m b i)) false)
  pub out :
      (room b i x : ℕ) → E.block_words ≤ i + length (here m b i) → next_index m b ≡ suc x → blocks ≤ suc x
      → P (suc room) b i (ended (here m b i) b (i + length (here m b i)) false)
  pub on :
      (room b i x : ℕ) (w : Walk) → E.block_words ≤ i + length (here m b i) → next_index m b ≡ suc x → suc x < blocks
      → P room (suc x) 2 w → P (suc room) b i (following (here m b i) w)

-- then every walk has it
module _ (E : Edition) (m : Memory) (blocks : ℕ) (P : ℕ → ℕ → ℕ → Walk → Type 0) (ways : Ways E m blocks P) where
  by_turn :
      (room b i : ℕ) → ((r x : ℕ) → room ≡ suc r → P r x 2 (walk E m blocks r x 2)) → Dec (E.block_words ≤ i + length (here m b i))
      → (n : ℕ) → next_index m b ≡ n → Dec (blocks ≤ n) → P room b i (walk E m blocks room b i)
  by_turn room b i more (no l) n en d = rw (walk-stop E m blocks b i room (omega arith)) (ways.stop room b i (omega arith))
  by_turn room b i more (yes f) zero en d = rw (walk-last E m blocks b i room f en) (ways.last room b i f en)
  by_turn zero b i more (yes f) (suc x) en d = rw (walk-full E m blocks b i x f en) (ways.full b i x f en)
  by_turn (suc room) b i more (yes f) (suc x) en (yes o) = rw (walk-out E m blocks b i room x f en o) (ways.out room b i x f en o)
  by_turn (suc room) b i more (yes f) (suc x) en (no g) =
      rw (walk-on E m blocks b i room x f en (omega arith))
      (ways.on room b i x (walk E m blocks room (suc x) 2) f en (omega arith) (more room (suc x) refl))

  pub by-turns : (room b i : ℕ) → P room b i (walk E m blocks room b i)
  by-turns zero b i =
      by_turn zero b i (λ r x e. absurd (omega arith)) (dec_le E.block_words (i + length (here m b i))) (next_index m b) refl (dec_le blocks (next_index m b))
  by-turns (suc room) b i =
      by_turn (suc room) b i (λ r x e. let q : r ≡ room = omega arith in rw q (by-turns room x 2)) (dec_le E.block_words (i + length (here m b i)))
      (next_index m b) refl (dec_le blocks (next_index m b))

-- ---- where a pass over a block's entries ends

pub tail-le : (i : ℕ) (xs : List ℕ) → i + length (up_to_zero (drop i xs)) ≤ max i (length xs)
tail-le i xs = let h = up_to_zero-le (drop i xs) in let d = length-drop i xs in omega arith

pub block-short : (E : Edition) (words : List ℕ) (b : ℕ) → length (block_at (memory E words) b) ≤ E.block_words
block-short E words b = go (dec_le (length words / E.block_words) b)
  where
    go : Dec (length words / E.block_words ≤ b) → length (block_at (memory E words) b) ≤ E.block_words
    go (yes h) = rw (block-outside E words b h) (omega arith)
    go (no n) = omega (arith, block-length E words b (omega arith))

pub tail-small :
    (E : Edition) (words : List ℕ) (b i t : ℕ) → i < 2 ^ 32 → t ≡ i + length (up_to_zero (drop i (block_at (memory E words) b))) → t < 2 ^ 32
tail-small E words b i t h e = let l = tail-le i (block_at (memory E words) b) in let s = block-short E words b in omega arith

-- a full block more
block_more : (E : Edition) (n : ℕ) → (E.block_words - 2) * suc n ≡ (E.block_words - 2) * n + (E.block_words - 2)
block_more E n = sized (λ W U. (W - 2) * suc n ≡ (W - 2) * n + (W - 2)) (omega arith) E

-- ---- what a walk reads

pub never : {A : Type 0} → false ≡ true → A
never e = let z : ◌≡◌ {A = ℕ} 0 1 = cc in absurd (omega arith)

module _ (E : Edition) (m : Memory) (blocks : ℕ) (whole : (b : ℕ) → b < blocks → length (block_at m b) ≡ E.block_words) where
  -- the slots from a log place on, over what is left of the chain
  abbrev pub rest : ℕ → ℕ → ℕ → List ℕ
  rest room b i = drop i (block_at m b) ++ slots_of m (chain_from m room (next_index m b))

  module _ (b i : ℕ) (more : List ℕ) (inside : b < blocks) (slot : i ≤ E.block_words) where
    left : length (drop i (block_at m b)) ≡ E.block_words - i
    left = length-drop i (block_at m b) ∙ ap (λ (n : ℕ). n - i) (whole b inside)

    -- an empty slot ends the walk in this block
    stops : i + length (here m b i) < E.block_words → here m b i ≡ up_to_zero (drop i (block_at m b) ++ more)
    stops l = sym (up_to_zero-stops (drop i (block_at m b)) more (omega (arith, left)))

    -- without one the walk reads all of it, and what follows
    passes : E.block_words ≤ i + length (here m b i) → here m b i ++ up_to_zero more ≡ up_to_zero (drop i (block_at m b) ++ more)
    passes f =
        let e : here m b i ≡ drop i (block_at m b) = up_to_zero-full (drop i (block_at m b)) (omega (arith, left)) in
        sym (up_to_zero-append (drop i (block_at m b)) more e ∙ ap (λ (l : List ℕ). l ++ up_to_zero more) (sym e))

  abbrev Reads : ℕ → ℕ → ℕ → Walk → Type 0
  Reads room b i w = b < blocks → i ≤ E.block_words → w.sound ≡ true → w.entries ≡ up_to_zero (rest room b i)

  -- what a sound walk reads is what stands in the log from its place on
  reads : 2 ≤ E.block_words → Ways E m blocks Reads
  unfolding slots_of chain_from
  reads two = record {
    stop = λ room b i l inside slot s. stops b i (slots_of m (chain_from m room (next_index m b))) inside slot l;
    last = λ room b i f z inside slot s.
        sym (append-nil (here m b i)) ∙ passes b i [] inside slot f
        ∙ ap (λ (cs : List ℕ). up_to_zero (drop i (block_at m b) ++ slots_of m cs)) (sym (chain-end m room (next_index m b) z));
    full = λ b i x f e inside slot s. never s;
    out = λ room b i x f e o inside slot s. never s;
    on = λ room b i x w f e o more inside slot s.
        ap (λ (es : List ℕ). here m b i ++ es) (more o two s) ∙ passes b i (rest room (suc x) 2) inside slot f
        ∙ ap (λ (n : ℕ). up_to_zero (drop i (block_at m b) ++ slots_of m (chain_from m (suc room) n))) (sym e);
  }

  pub walk-entries :
      2 ≤ E.block_words → (room b i : ℕ) → b < blocks → i ≤ E.block_words → (walk E m blocks room b i).sound ≡ true
      → (walk E m blocks room b i).entries ≡ up_to_zero (rest room b i)
  walk-entries two = by-turns E m blocks Reads (reads two)

  -- ---- how many entries a walk reads

  abbrev Counts : ℕ → ℕ → ℕ → Walk → Type 0
  Counts room b i w =
      b < blocks → i ≤ E.block_words → w.sound ≡ true
      → (length w.entries + i ≡ w.slot + (E.block_words - 2) * w.entered) × (w.entered ≤ room) × (w.slot ≤ E.block_words)

  short : (b i : ℕ) → b < blocks → length (here m b i) ≤ E.block_words - i
  short b i inside = omega (arith, up_to_zero-le (drop i (block_at m b)), length-drop i (block_at m b), whole b inside)

  counts : Ways E m blocks Counts
  counts = record {
    stop = λ room b i l inside slot s. (omega arith, omega arith, omega (arith, short b i inside));
    last = λ room b i f z inside slot s. (omega arith, omega arith, omega (arith, short b i inside));
    full = λ b i x f e inside slot s. never s;
    out = λ room b i x f e o inside slot s. never s;
    on = λ room b i x w f e o more inside slot s.
        let k = more o (omega arith) s in (
          omega (arith, k.0, length-append (here m b i) w.entries, block_more E w.entered, short b i inside),
          omega (arith, k.1),
          k.2,
        );
  }

  pub walk-counts :
      (room b i : ℕ) → b < blocks → i ≤ E.block_words → (walk E m blocks room b i).sound ≡ true
      → (length (walk E m blocks room b i).entries + i
      ≡ (walk E m blocks room b i).slot + (E.block_words - 2) * (walk E m blocks room b i).entered)
      × ((walk E m blocks room b i).entered ≤ room) × ((walk E m blocks room b i).slot ≤ E.block_words)
  walk-counts = by-turns E m blocks Counts counts
