-- Where word j of the slots of some log blocks stands: log block j / 62 of them, and there word 2 + j % 62.
use mathlib.Core.Path.{◌≡◌, sym, ap, ◌∙◌}
use mathlib.Core.Bool.{true, false}
use mathlib.Core.List.{List, [], ◌∷◌, ◌++◌}
use Prim.Native.Nat.{ℕ, suc, ◌+◌, ◌-◌, ◌*◌, ◌/◌, ◌%◌, ◌≤◌, ◌<◌}
use native.Mathlib.Decide.{dec_lt}
use native.Mathlib.Omega.{arith}
use lib.Dec.{leb}
use lib.ListN.{length, get_or, length-append, length-drop, get_or-append}
use lib.Seq.{get_or-append-add, get_or-drop}
use borrow.Author.Tests.{leb-false}
use Rattle.words.specs.Edition.{Edition}
use Rattle.words.specs.Logic.{some_of, member}
use Rattle.words.specs.Memory.{Memory, memory, block_count, block_at, word_at}
use Rattle.words.proofs.Logic.{or_left, or_right}
use Rattle.words.proofs.Memory.{block-length}
use Rattle.words.proofs.Sizes.{sized}
use Rattle.words.proofs.Tests.{member-at}
use Rattle.block_log.specs.Chain.{outside, slots, slots_of}
use Rattle.inspection.specs.Reading.{block_of, slot_of}

-- ---- quotients and remainders by the slots of a log block

module _ (E : Edition) where
  -- one log block more has its slots more
  slots-more : (n : ℕ) → (E.block_words - 2) * suc n ≡ E.block_words - 2 + (E.block_words - 2) * n
  slots-more n = sized (λ W U. (W - 2) * suc n ≡ W - 2 + (W - 2) * n) (omega arith) E

  slots-none : (E.block_words - 2) * 0 ≡ 0
  slots-none = sized (λ W U. (W - 2) * 0 ≡ 0) (omega arith) E

  -- a word of the first log block, and of a later one
  in-first : (j : ℕ) → j < E.block_words - 2 → (j / (E.block_words - 2) ≡ 0) × (j % (E.block_words - 2) ≡ j)
  in-first j = sized (λ W U. j < W - 2 → (j / (W - 2) ≡ 0) × (j % (W - 2) ≡ j)) (omega arith) E

  in-later : (k : ℕ)
      → ((E.block_words - 2 + k) / (E.block_words - 2) ≡ suc (k / (E.block_words - 2)))
      × ((E.block_words - 2 + k) % (E.block_words - 2) ≡ k % (E.block_words - 2))
  in-later k = sized (λ W U. ((W - 2 + k) / (W - 2) ≡ suc (k / (W - 2))) × ((W - 2 + k) % (W - 2) ≡ k % (W - 2))) (omega arith) E

  slot-block : (j n : ℕ) → j < (E.block_words - 2) * n → j / (E.block_words - 2) < n
  slot-block j n = sized (λ W U. j < (W - 2) * n → j / (W - 2) < n) (omega arith) E

  -- a slot is a word from 2 on
  pub slot-in : (j : ℕ) → (2 ≤ slot_of E j) × (slot_of E j < E.block_words)
  slot-in j = sized (λ W U. (2 ≤ 2 + j % (W - 2)) × (2 + j % (W - 2) < W)) (omega arith) E

-- ---- the words of the slots

module _ (E : Edition) (words : List ℕ) where
  abbrev m : Memory
  m = memory E words

  abbrev blocks : ℕ
  blocks = block_count E words

  slots_length : (b : ℕ) → b < blocks → length (slots (block_at m b)) ≡ E.block_words - 2
  slots_length b h = length-drop 2 (block_at m b) ∙ ap (λ (n : ℕ). n - 2) (block-length E words b h)

  first-in : (c : ℕ) (cs : List ℕ) → some_of (outside blocks) (c ∷ cs) ≡ false → c < blocks
  first-in c cs h = leb-false blocks c (or_left (leb blocks c) (some_of (outside blocks) cs) h)

  rest_in : (c : ℕ) (cs : List ℕ) → some_of (outside blocks) (c ∷ cs) ≡ false → some_of (outside blocks) cs ≡ false
  rest_in c cs h = or_right (leb blocks c) (some_of (outside blocks) cs) h

  -- how many there are
  pub place-count : (cs : List ℕ) → some_of (outside blocks) cs ≡ false → length (slots_of m cs) ≡ (E.block_words - 2) * length cs
  unfolding slots_of
  place-count [] h = sym (slots-none E)
  place-count (c ∷ cs) h =
      length-append (slots (block_at m c)) (slots_of m cs)
      ∙ omega (arith, slots_length c (first-in c cs h), place-count cs (rest_in c cs h), slots-more E (length cs))

  -- the word that stands at place j
  pub place-word :
      (cs : List ℕ) → some_of (outside blocks) cs ≡ false → (j : ℕ) → j < (E.block_words - 2) * length cs
      → word_at m (block_of E cs j) (slot_of E j) ≡ get_or (slots_of m cs) j 0
  unfolding slots_of
  place-word [] h j l = absurd (omega (arith, slots-none E))
  place-word (c ∷ cs) h j l = go (dec_lt j (E.block_words - 2)) (λ k g. place-word cs (rest_in c cs h) k g)
    where
      n : length (slots (block_at m c)) ≡ E.block_words - 2
      n = slots_length c (first-in c cs h)

      later :
          (k : ℕ) → word_at m (block_of E cs k) (slot_of E k) ≡ get_or (slots_of m cs) k 0
          → word_at m (block_of E (c ∷ cs) (E.block_words - 2 + k)) (slot_of E (E.block_words - 2 + k))
          ≡ get_or (slots (block_at m c) ++ slots_of m cs) (E.block_words - 2 + k) 0
      later k r =
          let q = in-later E k in
          rw (q.0, q.1) (r ∙ sym (rw n at (get_or-append-add (slots (block_at m c)) (slots_of m cs) k 0)))

      go :
          Dec (j < E.block_words - 2)
          → ((k : ℕ) → k < (E.block_words - 2) * length cs → word_at m (block_of E cs k) (slot_of E k) ≡ get_or (slots_of m cs) k 0)
          → word_at m (block_of E (c ∷ cs) j) (slot_of E j) ≡ get_or (slots (block_at m c) ++ slots_of m cs) j 0
      go (yes a) ih =
          let e = in-first E j a in
          rw (e.0, e.1) (sym (get_or-append (slots (block_at m c)) (slots_of m cs) 0 j (omega (arith, n)) ∙ get_or-drop 2 (block_at m c) j 0))
      go (no a) ih =
          let e : E.block_words - 2 + (j - (E.block_words - 2)) ≡ j = omega arith in
          rw e at (later (j - (E.block_words - 2)) (ih (j - (E.block_words - 2)) (omega (arith, slots-more E (length cs)))))

  -- its block is one of these
  pub place-block : (cs : List ℕ) (j : ℕ) → j < (E.block_words - 2) * length cs → member (block_of E cs j) cs ≡ true
  place-block cs j l = member-at cs (j / (E.block_words - 2)) (slot-block E j (length cs) l)
