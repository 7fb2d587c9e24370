-- A read's word: where it lies, the bytes that its step copies, and those that its last step hands over. Over plain lists and numbers. Assumes nothing.
use Prim.Native.Nat.{ℕ, zero, suc, ◌+◌, ◌*◌, ◌-◌, ◌/◌, ◌%◌, ◌≤◌, ◌<◌, max, min}
use native.Mathlib.Omega.{arith}
use native.Mathlib.Numerals.{add-one}
use native.Mathlib.Nat.{zero-add}
use mathlib.Core.Path.{◌≡◌, refl, sym, ◌∙◌, ap}
use mathlib.Core.Logic.{◌≢◌, ◌⊎◌, inl, inr}
use mathlib.Core.List.{List, [], ◌∷◌, ◌++◌}
use lib.ListN.{length, take, drop, set, get_or, length-set}
use lib.Seq.{paste-suc, sets, get_or-set_same, get_or-set_other}
use borrow.Author.Tests.{lt-ltb, le-ltb}
use Rattle.words.specs.Edition.{Edition, block_bytes}
use Rattle.words.specs.Logic.{list_from}
use Rattle.words.specs.Memory.{Memory}
use Rattle.words.proofs.Logic.{length-list_from, get_d-list_from}
use Rattle.words.proofs.Sizes.{sized}
use Rattle.words.proofs.Choice.{choose-true, choose-false}
use Rattle.block_log.specs.Replay.{Mapped, mapped_byte, file_byte}
use Rattle.points.specs.declared.Write.{Write}
use Rattle.points.specs.Record.{range_words}
use Rattle.points.specs.ReadSteps.{copy_at, copy_from, copy_to, shown_byte, with_word}
use Rattle.points.proofs.Copied.{list_from-same, sets-three}
use Rattle.points.proofs.FilePieces.{file-piece}

pub handed-next :
    (text bytes₀ bytes : List ℕ) (i : ℕ) → i < length text → i < length bytes₀ → bytes ≡ take i text ++ drop i bytes₀
    → set bytes i (get_or text i 0) ≡ take (i + 1) text ++ drop (i + 1) bytes₀
handed-next text bytes₀ bytes i l h e =
    let z : 0 + i ≡ i = zero-add i in
    let y : 0 + suc i ≡ suc i = zero-add (suc i) in
    rw (e, add-one) (rw (y, z) at (paste-suc bytes₀ 0 text i 0 (omega arith) l))

-- ---- where the word lies

-- n bytes from o on; the word's from `from` to before `to`, those before `end` in the file; all in one block of B bytes, at virtual block v
pub record Word (B o n from end to v : ℕ) : Type 0 where
  pub starts : o ≤ from
  pub some : from < to
  pub ends : to ≤ o + n
  pub low : from ≤ end
  pub high : end ≤ to
  pub block : v ≡ from / B
  pub in_block : from % B + (to - from) ≤ B

word_in : (E : Edition) (o n position at from to : ℕ) → 1 ≤ n → position < (o + n - 1) / 8 - o / 8 + 1 → at ≡ 8 * (o / 8 + position)
    → from ≡ max o at → to ≡ min (o + n) (at + 8)
    → (o ≤ from) × (from < to) × (to ≤ o + n) × (at / block_bytes E ≡ from / block_bytes E) × (from % block_bytes E + (to - from) ≤ block_bytes E)
word_in E o n position at from to =
    sized (λ W U. 1 ≤ n → position < (o + n - 1) / 8 - o / 8 + 1 → at ≡ 8 * (o / 8 + position) → from ≡ max o at → to ≡ min (o + n) (at + 8)
    → (o ≤ from) × (from < to) × (to ≤ o + n) × (at / (8 * W) ≡ from / (8 * W)) × (from % (8 * W) + (to - from) ≤ 8 * W))
    (omega arith) E

-- the word's bytes, by what the code computes
pub word-lies :
    (E : Edition) (w : Write) (size from to low end v : ℕ) → 1 ≤ w.size → w.position < range_words w → from ≡ copy_from w → to ≡ copy_to w
    → low ≡ min to size → end ≡ max from low → v ≡ copy_at w / block_bytes E → Word (block_bytes E) w.offset w.size from end to v
word-lies E w size from to low end v some in-range is_from is_to is_low is_end is_block =
    let k = word_in E w.offset w.size w.position (copy_at w) from to some in-range refl is_from is_to in
    record {
      starts = k.0;
      some = k.1;
      ends = k.2;
      low = omega arith;
      high = omega arith;
      block = is_block ∙ k.3;
      in_block = k.4;
    }

-- what the copies ask: the part of the block, and the places in the text of the bytes in the file and of the others
module _ {B o n from end to v : ℕ} (k : Word B o n from end to v) where
  pub word_piece : (q : ℕ) → q ≡ from % B → q + (end - from) ≤ B
  word_piece q e = omega arith

  module _ (room : ℕ) (few : n ≤ room) where
    pub word-front : from - o + (end - from) ≤ room
    word-front = omega arith

    pub word_back : end - o + (to - end) ≤ room
    word_back = omega arith

-- ---- the word copied

-- from the text's start: the bytes in the file, then the others
apart : (o from end : ℕ) → o ≤ from → from ≤ end → end - o ≡ from - o + (end - from)
apart o from end h l = omega arith

whole : (from end to : ℕ) → from ≤ end → end ≤ to → end - from + (to - end) + 0 ≡ to - from
whole from end to h l = omega arith

front-in : (from end to low size : ℕ) → low ≡ min to size → end ≡ max from low → (i : ℕ) → i < end - from → from + i < size
front-in from end to low size e f i h = omega arith

back_in : (from end to low size : ℕ) → low ≡ min to size → end ≡ max from low → from ≤ end → (i : ℕ) → i < to - end → size ≤ end + i
back_in from end to low size e f g i h = omega arith

mid-is : (from end : ℕ) → from ≤ end → from + (end - from) ≡ end
mid-is from end h = omega arith

module _ (E : Edition) (m : Memory) (f : Mapped) where
  abbrev shown : ℕ → ℕ
  shown = shown_byte E m f

  shown-byte : (p : ℕ) → p < f.size → file_byte E m f p ≡ shown p
  unfolding shown_byte
  shown-byte p h = sym (choose-true _ (file_byte E m f p) 0 (lt-ltb p f.size h))

  shown-none : (p : ℕ) → f.size ≤ p → 0 ≡ shown p
  unfolding shown_byte
  shown-none p h = sym (choose-false _ (file_byte E m f p) 0 (le-ltb p f.size h))

  -- the block's bytes up to the file's end, and zeros behind them
  pub word_copied :
      (w : Write) (text copied cleared : List ℕ) (from to low end v q b : ℕ) → from ≡ copy_from w → to ≡ copy_to w → low ≡ min to f.size
      → end ≡ max from low → Word (block_bytes E) w.offset w.size from end to v → q ≡ from % block_bytes E → b ≡ get_or f.table v 0
      → copied ≡ sets text (from - w.offset) (list_from q (end - from) (mapped_byte m b))
      → cleared ≡ sets copied (end - w.offset) (list_from 0 (to - end) (λ _. 0))
      → cleared ≡ with_word E m f w text
  unfolding with_word
  word_copied w text copied cleared from to low end v q b is_from is_to is_low is_end k is_byte e one two =
      let o = w.offset in
      let at : end - o ≡ from - o + (end - from) = apart o from end k.starts k.low in
      let mid : from + (end - from) ≡ end = mid-is from end k.low in
      let front : list_from q (end - from) (mapped_byte m b) ≡ list_from from (end - from) shown =
      file-piece E m f from (end - from) v q b k.block is_byte e (word_piece k q is_byte)
      ∙ list_from-same (file_byte E m f) shown from from (end - from)
      (λ i l. shown-byte (from + i) (front-in from end to low f.size is_low is_end i l)) in
      let back : list_from 0 (to - end) (λ _. 0) ≡ list_from end (to - end) shown =
      list_from-same (λ _. 0) shown 0 end (to - end) (λ i l. shown-none (end + i) (back_in from end to low f.size is_low is_end k.low i l)) in
      rw (← is_from, ← is_to)
      (sets-three shown text copied cleared cleared (from - o) from (end - from) (to - end) 0 (to - from) (whole from end to k.low k.high)
      (one ∙ ap (sets text (from - o)) front)
      (rw mid (rw at at two ∙ ap (sets copied (from - o + (end - from))) back)) refl)

-- ---- byte by byte

sets-out : (xs ys : List ℕ) (i k : ℕ) → (k < i) ⊎ (i + length ys ≤ k) → get_or (sets xs i ys) k 0 ≡ get_or xs k 0
sets-out xs [] i k o = refl
sets-out xs (y ∷ ys) i k o = sets-out (set xs i y) ys (suc i) k (further o) ∙ get_or-set_other xs i k y 0 (apart o)
  where
    further : (k < i) ⊎ (i + suc (length ys) ≤ k) → (k < suc i) ⊎ (suc i + length ys ≤ k)
    further (inl l) = inl (omega arith)
    further (inr l) = inr (omega arith)

    apart : (k < i) ⊎ (i + suc (length ys) ≤ k) → k ≢ i
    apart (inl l) e = omega arith
    apart (inr l) e = omega arith

sets-in : (xs ys : List ℕ) (i k : ℕ) → k < length ys → i + length ys ≤ length xs → get_or (sets xs i ys) (i + k) 0 ≡ get_or ys k 0
sets-in xs [] i k h l = absurd (omega arith)
sets-in xs (y ∷ ys) i zero h l =
    let e : i + 0 ≡ i = omega arith in
    rw e (sets-out (set xs i y) ys (suc i) i (inl (omega arith)) ∙ get_or-set_same xs i y 0 (omega arith))
sets-in xs (y ∷ ys) i (suc k) h l =
    let e : i + suc k ≡ suc i + k = omega arith in
    rw e (sets-in (set xs i y) ys (suc i) k (omega arith) (rw length-set (omega arith)))

-- a byte of a word that was copied before stays; one of the word copied is the file's
module _ (E : Edition) (m : Memory) (f : Mapped) (w : Write) (text : List ℕ) (at : ℕ) (low : w.offset ≤ at) where
  pub byte-kept : at / 8 < w.offset / 8 + w.position → get_or (with_word E m f w text) (at - w.offset) 0 ≡ get_or text (at - w.offset) 0
  unfolding with_word
  byte-kept h = sets-out text (list_from (copy_from w) (copy_to w - copy_from w) (shown_byte E m f)) (copy_from w - w.offset) (at - w.offset) (inl (omega arith))

  pub byte-copied : at / 8 ≡ w.offset / 8 + w.position → at < w.offset + w.size → w.size ≤ length text
      → get_or (with_word E m f w text) (at - w.offset) 0 ≡ shown_byte E m f at
  unfolding with_word
  byte-copied h high long =
      let n = copy_to w - copy_from w in
      let ys = list_from (copy_from w) n (shown_byte E m f) in
      let l = length-list_from (copy_from w) n (shown_byte E m f) in
      let k : at - w.offset ≡ (copy_from w - w.offset) + (at - copy_from w) = omega arith in
      let b : copy_from w + (at - copy_from w) ≡ at = omega arith in
      rw k (sets-in text ys (copy_from w - w.offset) (at - copy_from w) (omega (arith, l)) (omega (arith, l))
      ∙ get_d-list_from (copy_from w) n (shown_byte E m f) (at - copy_from w) 0 (omega arith) ∙ ap (shown_byte E m f) b)
