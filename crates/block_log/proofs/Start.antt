-- The walk from the log's start, once 1, 4 and 5 are passed: it is sound and passes the log.
use mathlib.Core.Path.{◌≡◌, ◌∙◌, sym, refl, ap}
use mathlib.Core.Logic.{◌≢◌}
use mathlib.Core.List.{List, [], ◌∷◌}
use mathlib.Core.Bool.{true, false, Bool, or-false}
use Prim.Native.Nat.{ℕ, suc, ◌-◌, ◌+◌, ◌≤◌, ◌<◌, ◌*◌}
use native.Mathlib.Omega.{arith}
use native.Mathlib.Decide.{ℕ_discrete}
use lib.Dec.{ltb}
use lib.ListN.{length, length-drop}
use borrow.Author.Tests.{ltb-false, le-ltb}
use Rattle.words.specs.Edition.{Edition, one, chain_max}
use Rattle.words.specs.Logic.{is_zero, some_of, any, up_to_zero}
use Rattle.words.specs.Memory.{Memory, memory, block_at, block_count}
use Rattle.block_log.specs.CatchUp.{Walk, ahead, broken}
use Rattle.block_log.specs.Chain.{first_index, next_index, chain_from, chain, slots_of, log, outside, bad_index, endless, bad_log_block, bad_log}
use Rattle.block_log.specs.Opening.{bad_entry}
use Rattle.block_log.specs.Parts.{start_of}
use Rattle.words.proofs.Logic.{or_left, or_right, any_none}
use Rattle.words.proofs.Memory.{block-length}
use Rattle.block_log.proofs.Chain.{chain-end, chain_next, links-below, links-rest, endless-start, endless-on}
use Rattle.block_log.proofs.Hops.{chain_same, chain-short}
use Rattle.block_log.proofs.Reasons.{block-good}
use Rattle.block_log.proofs.Walk.{here, never, Ways, by-turns, walk-entries, walk-counts}

module _ (E : Edition) (m : Memory) (blocks : ℕ) where
  -- no index of the chain from block b on is outside, and it ends in time
  pub record Ends (room b : ℕ) : Type 0 where
    pub inside : some_of (outside blocks) (chain_from m (suc room) b) ≡ false
    pub ends : ltb (suc room) (length (chain_from m (suc (suc room)) b)) ≡ false

  abbrev SoundFrom : ℕ → ℕ → ℕ → Walk → Type 0
  SoundFrom room b i w = b ≢ 0 → Ends room b → w.sound ≡ true

  module _ (room b x : ℕ) (some : b ≢ 0) (next : next_index m b ≡ suc x) where
    -- where it ends in time with no block to come, there is no next block
    none-next : Ends 0 b → ⊥
    none-next c =
        let e : ltb 1 (length (chain_from m 2 b)) ≡ ltb 0 (length (chain_from m 1 (next_index m b))) = endless-on m 1 b (omega arith) some in
        let d : chain_from m 1 (suc x) ≡ suc x ∷ chain_from m 0 (next_index m (suc x)) = chain_next m 1 (suc x) (omega arith) (λ z. omega arith) in
        let l = ltb-false 0 (length (suc x ∷ chain_from m 0 (next_index m (suc x)))) (rw d at (rw next at (sym e ∙ c.ends))) in
        omega arith

    less : suc (suc room) - 1 ≡ suc room
    less = omega arith

    ends_on : Ends (suc room) b → Ends room (suc x)
    ends_on c = record {
      inside = rw (next, less) at (links-rest m (suc (suc room)) b blocks (omega arith) some c.inside);
      ends = rw (next, less) at (sym (endless-on m (suc (suc room)) b (omega arith) some) ∙ c.ends);
    }

    next-below : Ends (suc room) b → suc x < blocks
    next-below c = links-below m (suc room) (suc x) blocks (omega arith) (λ z. omega arith) (ends_on c).inside

  sound-ways : Ways E m blocks SoundFrom
  sound-ways = record {
    stop = λ room b i l some c. refl;
    last = λ room b i f z some c. refl;
    full = λ b i x f e some c. absurd (none-next 0 b x some e c);
    out = λ room b i x f e o some c. absurd (omega (arith, next-below room b x some e c));
    on = λ room b i x w f e o more some c. more (λ z. omega arith) (ends_on room b x some e c);
  }

  -- how many log blocks a walk enters: all that are chained, where each that has a next one is full
  abbrev Chained : ℕ → ℕ → ℕ → Walk → Type 0
  Chained room b i w =
      b ≢ 0 → b < blocks → i ≡ 2 → some_of (λ c. bad_log_block (block_at m c)) (chain_from m (suc room) b) ≡ false → w.sound ≡ true
      → suc w.entered ≡ length (chain_from m (suc room) b)

  module _ (whole : (b : ℕ) → b < blocks → length (block_at m b) ≡ E.block_words) where
    tidy-here : (room b : ℕ) → b ≢ 0 → some_of (λ c. bad_log_block (block_at m c)) (chain_from m (suc room) b) ≡ false → bad_log_block (block_at m b) ≡ false
    tidy-here room b some t = or_left (bad_log_block (block_at m b)) _ (rw (chain_next m (suc room) b (omega arith) some) at t)

    -- a log block that is not full is the last
    short-last : (b : ℕ) → b < blocks → bad_log_block (block_at m b) ≡ false → 2 + length (here m b 2) < E.block_words → next_index m b ≡ 0
    short-last b inside t l = go (ℕ_discrete (next_index m b) 0)
      where
        go : Dec (next_index m b ≡ 0) → next_index m b ≡ 0
        go (yes e) = e
        go (no n) = absurd (omega (arith, (block-good (block_at m b) t).full n, length-drop 2 (block_at m b), whole b inside))

    one_block : (room b : ℕ) → b ≢ 0 → next_index m b ≡ 0 → 1 ≡ length (chain_from m (suc room) b)
    one_block room b some z =
        let e : suc room - 1 ≡ room = omega arith in
        rw (chain_next m (suc room) b (omega arith) some, e, chain-end m room (next_index m b) z)

    pub chained-ways : Ways E m blocks Chained
    chained-ways = record {
      stop = λ room b i l some inside two t s. one_block room b some (short-last b inside (tidy-here room b some t) (rw two at l));
      last = λ room b i f z some inside two t s. one_block room b some z;
      full = λ b i x f e some inside two t s. never s;
      out = λ room b i x f e o some inside two t s. never s;
      on = λ room b i x w f e o more some inside two t s.
          let less : suc (suc room) - 1 ≡ suc room = omega arith in
          let c : chain_from m (suc (suc room)) b ≡ b ∷ chain_from m (suc room) (suc x) =
          chain_next m (suc (suc room)) b (omega arith) some ∙ rw (less, e) in
          let k = more (λ z. omega arith) o refl (or_right (bad_log_block (block_at m b)) _ (rw c at t)) s in
          rw c (omega (arith, k));
    }

-- what the tests 1, 4 and 5 leave
module _ (E : Edition) (words : List ℕ) (idx : bad_index (block_count E words) (memory E words) ≡ false) where
  abbrev m : Memory
  m = memory E words

  abbrev blocks : ℕ
  blocks = block_count E words

  index-facts : (is_zero (first_index m) ≡ false) × (some_of (outside blocks) (chain m) ≡ false)
  unfolding bad_index
  index-facts = let a = any_none (is_zero (first_index m) ∷ some_of (outside blocks) (chain m) ∷ []) idx in (a.0, a.1.0)

  pub chain-inside : some_of (outside blocks) (chain m) ≡ false
  chain-inside = index-facts.1

  pub first_some : first_index m ≡ 0 → ⊥
  first_some e =
      let f : is_zero (first_index m) ≡ false = index-facts.0 in
      let z : ◌≡◌ {A = Bool} true false = rw e at f in
      let q : ◌≡◌ {A = ℕ} 0 1 = cc in
      omega arith

  pub first-inside : first_index m < blocks
  unfolding chain
  first-inside = links-below m chain_max (first_index m) blocks (omega arith) first_some chain-inside

  -- the chain is shorter than the image, so the walk may enter all of it
  module _ (stops : endless m ≡ false) where
    in-time : length (chain_from m (suc chain_max) (first_index m)) < suc chain_max
    in-time = omega (arith, ltb-false chain_max (length (chain_from m (suc chain_max) (first_index m))) (sym (endless-start m) ∙ stops))

    whole : chain m ≡ chain_from m (suc chain_max) (first_index m)
    unfolding chain
    whole = chain_same m (suc chain_max) (first_index m) chain_max in-time (omega (arith, in-time))

    pub chain-few : (length (chain m) ≤ chain_max) × (length (chain m) < blocks)
    chain-few =
        let inside = rw whole at chain-inside in
        let l = chain-short m (suc chain_max) (first_index m) blocks (omega (arith, first-inside)) inside in-time in
        rw whole (omega (arith, in-time), l)

    pub chain-room : (n : ℕ) → blocks ≤ n → chain_from m n (first_index m) ≡ chain m
    chain-room n h =
        chain_same m (suc chain_max) (first_index m) n in-time (omega (arith, ap length whole, chain-few.1)) ∙ sym whole

    chain-ends : Ends E m blocks blocks (first_index m)
    chain-ends = record {
      inside = rw (chain-room (suc blocks) (omega arith)) chain-inside;
      ends = rw (chain-room (suc (suc blocks)) (omega arith)) (le-ltb (suc blocks) (length (chain m)) (omega (arith, chain-few.1)));
    }

    chain-is : chain m ≡ first_index m ∷ chain_from m blocks (next_index m (first_index m))
    chain-is =
        let e : suc blocks - 1 ≡ blocks = omega arith in
        sym (chain-room (suc blocks) (omega arith)) ∙ chain_next m (suc blocks) (first_index m) (omega arith) first_some
        ∙ ap (λ (n : ℕ). first_index m ∷ chain_from m n (next_index m (first_index m))) e

-- the place of the log's start is edition one's (`start_of`), so are the laws of the walk from it
module _ (words : List ℕ) (idx : bad_index (block_count one words) (memory one words) ≡ false) (ends : endless (memory one words) ≡ false) where
  abbrev image : Memory
  image = memory one words

  abbrev count : ℕ
  count = block_count one words

  pub start-sound : (ahead one image count (start_of words)).sound ≡ true
  unfolding ahead
  start-sound =
      by-turns one image count (SoundFrom one image count) (sound-ways one image count) count (first_index image) 2 (first_some one words idx)
      (chain-ends one words idx ends)

  pub start-entries : (ahead one image count (start_of words)).entries ≡ log image
  unfolding ahead log slots_of
  start-entries =
      walk-entries one image count (λ b h. block-length one words b h) (omega arith) count (first_index image) 2 (first-inside one words idx)
      (omega arith) start-sound ∙ ap (λ (bs : List ℕ). up_to_zero (slots_of image bs)) (sym (chain-is one words idx ends))

  pub start-broken : broken one count (ahead one image count (start_of words)) ≡ bad_entry one count (log image)
  unfolding broken any
  start-broken = rw (start-sound, start-entries) (or-false (bad_entry one count (log image)))

  -- the log's length, from the slot where the walk from its start ends and the log blocks that it enters
  pub log-count :
      let w = ahead one image count (start_of words) in
      (length (log image) + 2 ≡ w.slot + 62 * w.entered) × (w.slot ≤ 64)
  unfolding ahead
  log-count =
      let k = walk-counts one image count (λ b h. block-length one words b h) count (first_index image) 2 (first-inside one words idx) (omega arith)
      start-sound in
      let e = ap length start-entries in
      (omega (arith, k.0, e), k.2)

  -- the chain's length: where 6 is passed too, the walk enters all of it but the first
  pub chain-count : bad_log image ≡ false → suc (ahead one image count (start_of words)).entered ≡ length (chain image)
  unfolding ahead bad_log
  chain-count tidy =
      let room = chain-room one words idx ends (suc count) (omega arith) in
      by-turns one image count (Chained one image count) (chained-ways one image count (λ b h. block-length one words b h)) count (first_index image) 2
      (first_some one words idx) (first-inside one words idx) refl (rw room tidy) start-sound ∙ ap length room
