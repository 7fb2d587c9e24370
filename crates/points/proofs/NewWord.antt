-- A word of the run is put together from bytes. A word is its eight bytes, so every law here goes byte by byte: those of the text, those copied.
use Prim.Native.Nat.{ℕ, zero, suc, ◌+◌, ◌*◌, ◌-◌, ◌/◌, ◌%◌, ◌^◌, ◌≤◌, ◌<◌}
use native.Mathlib.Omega.{arith}
use native.Mathlib.Nat.{mod-eq_of_lt, lt_of_lt_of_le, zero-div}
use mathlib.Core.Path.{◌≡◌, refl, sym, ap, ◌∙◌}
use mathlib.Core.Logic.{◌≢◌, ◌⊎◌, inl, inr}
use mathlib.Core.Bool.{Bool, true, false, ◌&&◌}
use mathlib.Core.List.{List}
use lib.ListN.{get_or}
use lib.Bits.{bit_or, or_shifted}
use lib.Pow.{pow-add, pow_mono, shr_lt, shr-shr}
use lib.Dec.{leb, ltb}
use borrow.Author.Tests.{lt-ltb, le-ltb, le-leb, lt-leb}
use Rattle.words.proofs.Logic.{and_both}
use Rattle.words.proofs.Choice.{choose, choose-true, choose-false}
use Rattle.words.specs.Logic.{list_from}
use Rattle.words.specs.Word.{byte_of, from_bytes}
use Rattle.words.specs.Memory.{Memory, word_at}
use Rattle.block_log.specs.Replay.{Mapped, mapped_byte, file_byte}
use native.Mathlib.Decide.{dec_le, dec_lt}
use Rattle.words.specs.Edition.{Edition, block_bytes}
use Rattle.words.proofs.Sizes.{split-byte, word_byte}
use Rattle.words.proofs.WordBytes.{bytes-view}
use Rattle.points.specs.declared.Head.{Head}
use Rattle.points.specs.Fill.{new_word, new_byte, laid_byte, run_start}
use Rattle.points.specs.Record.{file_at}
use Rattle.points.specs.Lent.{mixed_byte}

-- a byte put below a word of seven
pub byte-below : (w x : ℕ) → w < 2 ^ 56 → x < 256 → bit_or (w * 2 ^ 8 % 2 ^ 64) x ≡ x + 256 * w
byte-below w x hw hx =
    let l : w * 2 ^ 8 < 2 ^ 64 = omega arith in
    ap (λ (y : ℕ). bit_or y x) (mod-eq_of_lt l) ∙ or_shifted w 8 x (omega arith) ∙ omega arith

-- n bytes are below 2 ^ 8n; one more
pub one_more : (w x n : ℕ) → w < 2 ^ (8 * n) → x < 256 → x + 256 * w < 2 ^ (8 * suc n)
one_more w x n hw hx =
    let e : 8 * suc n ≡ 8 + 8 * n = omega arith in
    rw (e, pow-add 2 8 (8 * n)) (omega arith)

pub seven : (w n : ℕ) → w < 2 ^ (8 * n) → n ≤ 7 → w < 2 ^ 56
seven w n h l = lt_of_lt_of_le h (pow_mono {i = 8 * n} {j = 56} (omega arith))

-- ---- a byte by its place

pub byte-lt : (w j : ℕ) → byte_of w j < 256
byte-lt w j = omega arith

-- x from lo to hi, y elsewhere
module _ (lo p hi x y : ℕ) where
  from-to : lo ≤ p → p < hi → choose (leb lo p && ltb p hi) x y ≡ x
  from-to a b = choose-true (leb lo p && ltb p hi) x y (and_both _ _ (le-leb lo p a) (lt-ltb p hi b))

  before : p < lo → choose (leb lo p && ltb p hi) x y ≡ y
  before a = rw (lt-leb lo p a)

  behind : hi ≤ p → choose (leb lo p && ltb p hi) x y ≡ y
  behind b = choose-false (leb lo p && ltb p hi) x y (last (leb lo p) (ltb p hi) (le-ltb p hi b))
    where
      last : (s t : Bool) → t ≡ false → s && t ≡ false
      last true t e = e
      last false t e = refl

module _ (copied : ℕ) (text : List ℕ) (lead end at p : ℕ) where
  pub mixed-text : lead ≤ p → p < end → mixed_byte copied text lead end at p ≡ get_or text (p - lead) 0
  unfolding mixed_byte
  mixed-text = from-to lead p end (get_or text (p - lead) 0) (byte_of copied (p - at))

  pub mixed-before : p < lead → mixed_byte copied text lead end at p ≡ byte_of copied (p - at)
  unfolding mixed_byte
  mixed-before = before lead p end (get_or text (p - lead) 0) (byte_of copied (p - at))

  pub mixed-after : end ≤ p → mixed_byte copied text lead end at p ≡ byte_of copied (p - at)
  unfolding mixed_byte
  mixed-after = behind lead p end (get_or text (p - lead) 0) (byte_of copied (p - at))

module _ (E : Edition) (m : Memory) (f : Mapped) (offset size : ℕ) (text : List ℕ) (p : ℕ) where
  laid-text : offset ≤ p → p < offset + size → laid_byte E m f offset size text p ≡ get_or text (p - offset) 0
  unfolding laid_byte
  laid-text = from-to offset p (offset + size) (get_or text (p - offset) 0) (file_byte E m f p)

  laid-before : p < offset → laid_byte E m f offset size text p ≡ file_byte E m f p
  unfolding laid_byte
  laid-before = before offset p (offset + size) (get_or text (p - offset) 0) (file_byte E m f p)

  laid-after : offset + size ≤ p → laid_byte E m f offset size text p ≡ file_byte E m f p
  unfolding laid_byte
  laid-after = behind offset p (offset + size) (get_or text (p - offset) 0) (file_byte E m f p)

-- ---- from the last byte down: the byte before those that are done is put below them

abbrev pub Done : (ℕ → ℕ) → ℕ → ℕ → ℕ → Type 0
Done f at p w = (at ≤ p) × (p ≤ at + 8) × (w ≡ from_bytes (list_from p (at + 8 - p) f)) × (w < 2 ^ (8 * (at + 8 - p)))

pub next-byte : (f : ℕ → ℕ) (at p w x : ℕ) → Done f at p w → at < p → x ≡ f (p - 1) → x < 256
    → Done f at (p - 1) (bit_or (w * 2 ^ 8 % 2 ^ 64) x)
next-byte f at p w x d h e l =
    let n : at + 8 - (p - 1) ≡ suc (at + 8 - p) = omega arith in
    let q : suc (p - 1) ≡ p = omega arith in
    let b : bit_or (w * 2 ^ 8 % 2 ^ 64) x ≡ x + 256 * w = byte-below w x (seven w (at + 8 - p) d.3 (omega arith)) l in
    (omega arith, omega arith, rw (b, n) (rw (q, e) (ap (λ (y : ℕ). f (p - 1) + 256 * y) d.2)), rw (b, n) (one_more w x (at + 8 - p) d.3 l))

-- ---- the bytes of a word that is copied

pub mapped-none : (m : Memory) (q j : ℕ) → byte_of 0 j ≡ mapped_byte m 0 q
mapped-none m q j = ap (λ (x : ℕ). x % 2 ^ 8) (zero-div (2 ^ (8 * j)))

pub mapped-word : (m : Memory) (b i j : ℕ) → b ≢ 0 → j < 8 → byte_of (word_at m b i) j ≡ mapped_byte m b (8 * i + j)
mapped-word m zero i j ne h = absurd (ne refl)
mapped-word m (suc b) i j ne h =
    let d : (8 * i + j) / 8 ≡ i = omega arith in
    let r : (8 * i + j) % 8 ≡ j = omega arith in
    rw (d, r)

-- ---- the word of the definition

-- two lists of bytes that agree byte by byte make one word
pub same_bytes : (i j n : ℕ) (f g : ℕ → ℕ) → ((k : ℕ) → k < n → f (i + k) ≡ g (j + k))
    → from_bytes (list_from i n f) ≡ from_bytes (list_from j n g)
same_bytes i j n f g h = bytes-view i n f (λ k. g (j + k)) h ∙ sym (bytes-view j n g (λ k. g (j + k)) (λ k l. refl))

-- a word is its bytes
pub word_bytes : (w n : ℕ) → w < 2 ^ (8 * n) → from_bytes (list_from 0 n (byte_of w)) ≡ w
word_bytes w zero h = omega arith
word_bytes w (suc n) h =
    let up : 8 * suc n ≡ 8 * n + 8 = omega arith in
    let rest : from_bytes (list_from 1 n (byte_of w)) ≡ w / 2 ^ 8 =
    same_bytes 1 0 n (byte_of w) (byte_of (w / 2 ^ 8)) (λ k l. byte-up w k) ∙ word_bytes (w / 2 ^ 8) n (shr_lt {n = w} (8 * n) 8 (rw up at h)) in
    rw rest (omega arith)
  where
    byte-up : (w k : ℕ) → byte_of w (1 + k) ≡ byte_of (w / 2 ^ 8) (0 + k)
    byte-up w k =
        let e : 8 * (1 + k) ≡ 8 + 8 * (0 + k) = omega arith in
        rw (e, ← shr-shr w 8 (8 * (0 + k)))

-- byte j of word k of the run, in the file
abbrev place : Edition → Head → ℕ → ℕ → ℕ
place E h k j = run_start E h.write + 8 * k + j

-- where no byte of a word is the text's, it is the word that is copied there
pub mixed-copied : (copied : ℕ) (text : List ℕ) (lead end at : ℕ) → copied < 2 ^ 64 → (at + 8 ≤ lead) ⊎ (end ≤ at)
    → from_bytes (list_from at 8 (mixed_byte copied text lead end at)) ≡ copied
mixed-copied copied text lead end at small out =
    same_bytes at 0 8 (mixed_byte copied text lead end at) (byte_of copied) (byte out) ∙ word_bytes copied 8 small
  where
    byte : (at + 8 ≤ lead) ⊎ (end ≤ at) → (j : ℕ) → j < 8 → mixed_byte copied text lead end at (at + j) ≡ byte_of copied (0 + j)
    byte (inl a) j l =
        let d : at + j - at ≡ 0 + j = omega arith in
        mixed-before copied text lead end at (at + j) (omega arith) ∙ rw d
    byte (inr a) j l =
        let d : at + j - at ≡ 0 + j = omega arith in
        mixed-after copied text lead end at (at + j) (omega arith) ∙ rw d

-- word k of the run, from the word copied there and `lead`, the run's bytes before the text. `mixed`: byte by byte. `same`: the copied word itself, where
-- none of its bytes is the text's
pub record Laid (E : Edition) (m : Memory) (h : Head) (table text : List ℕ) (k copied lead : ℕ) : Type 0 where
  pub mixed : new_word E m h table text k ≡ from_bytes (list_from (8 * k) 8 (mixed_byte copied text lead (lead + h.write.size) (8 * k)))
  pub same : copied < 2 ^ 64 → (8 * k + 8 ≤ lead) ⊎ (lead + h.write.size ≤ 8 * k) → new_word E m h table text k ≡ copied

-- word k of the run lies at word i of virtual block v
module _ (E : Edition) (m : Memory) (h : Head) (table text : List ℕ) (k copied lead v i : ℕ) (is_lead : lead ≡ h.write.offset % block_bytes E)
    (is_block : v ≡ h.write.offset / block_bytes E + k / E.block_words) (is_word : i ≡ k % E.block_words) where
  -- the word copied is the mapped block's there
  abbrev pub Copied : Type 0
  Copied = (j : ℕ) → j < 8 → byte_of copied j ≡ mapped_byte m (get_or table v 0) (8 * i + j)

  -- the run's bytes up to the text's end
  abbrev end : ℕ
  end = lead + h.write.size

  abbrev mixed : ℕ → ℕ
  mixed = mixed_byte copied text lead end (8 * k)

  file-byte : Copied → (j : ℕ) → j < 8 → file_byte E m (file_at h table) (place E h k j) ≡ byte_of copied (8 * k + j - 8 * k)
  unfolding file_byte
  file-byte c j l =
      let at = word_byte E (h.write.offset / block_bytes E) k j l in
      let d : 8 * k + j - 8 * k ≡ j = omega arith in
      rw (at.0, at.1, d, ← is_block, ← is_word) (sym (c j l))

  new-byte : Copied → (j : ℕ) → j < 8 → new_byte E m h table text (place E h k j) ≡ mixed (8 * k + j)
  new-byte c j l = go (dec_le h.write.offset (place E h k j)) (dec_lt (place E h k j) (h.write.offset + h.write.size))
    where
      go :
          Dec (h.write.offset ≤ place E h k j) → Dec (place E h k j < h.write.offset + h.write.size)
          → new_byte E m h table text (place E h k j) ≡ mixed (8 * k + j)
      go (yes lo) (yes hi) =
          let split = split-byte E h.write.offset in
          let d : 8 * k + j - lead ≡ place E h k j - h.write.offset = omega arith in
          laid-text E m (file_at h table) h.write.offset h.write.size text (place E h k j) lo hi
          ∙ sym (mixed-text copied text lead end (8 * k) (8 * k + j) (omega arith) (omega arith) ∙ rw d)
      go (yes lo) (no hi) =
          let split = split-byte E h.write.offset in
          laid-after E m (file_at h table) h.write.offset h.write.size text (place E h k j) (omega arith)
          ∙ file-byte c j l ∙ sym (mixed-after copied text lead end (8 * k) (8 * k + j) (omega arith))
      go (no lo) hi =
          let split = split-byte E h.write.offset in
          laid-before E m (file_at h table) h.write.offset h.write.size text (place E h k j) (omega arith)
          ∙ file-byte c j l ∙ sym (mixed-before copied text lead end (8 * k) (8 * k + j) (omega arith))

  -- the word, byte by byte, from the word copied there and `lead`, the run's bytes before the text
  pub new_word_lem : Copied → new_word E m h table text k ≡ from_bytes (list_from (8 * k) 8 mixed)
  unfolding new_word
  new_word_lem c = same_bytes (run_start E h.write + 8 * k) (8 * k) 8 (new_byte E m h table text) mixed (new-byte c)

  pub laid : Copied → Laid E m h table text k copied lead
  laid c = record { mixed = new_word_lem c; same = λ small out. new_word_lem c ∙ mixed-copied copied text lead end (8 * k) small out }

-- where all of its bytes are the text's, they are eight in a row of it
pub new-word-text :
    (E : Edition) (m : Memory) (h : Head) (table text : List ℕ) (k lead : ℕ) → lead ≡ h.write.offset % block_bytes E → lead ≤ 8 * k
    → 8 * k + 8 ≤ lead + h.write.size
    → new_word E m h table text k ≡ from_bytes (list_from (8 * k - lead) 8 (λ i. get_or text i 0))
unfolding new_word
new-word-text E m h table text k lead is_lead lo hi =
    same_bytes (run_start E h.write + 8 * k) (8 * k - lead) 8 (new_byte E m h table text) (λ i. get_or text i 0) byte
  where
    byte : (j : ℕ) → j < 8 → new_byte E m h table text (place E h k j) ≡ get_or text (8 * k - lead + j) 0
    byte j l =
        let p = place E h k j in
        let split = split-byte E h.write.offset in
        let i : p - h.write.offset ≡ 8 * k - lead + j = omega arith in
        laid-text E m (file_at h table) h.write.offset h.write.size text p (omega arith) (omega arith) ∙ rw i
