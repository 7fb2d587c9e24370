-- The file's bytes within one block are the bytes of one part of the image, and 0 where there is no part.
use Prim.Native.Nat.{ℕ, zero, suc, ◌+◌, ◌*◌, ◌/◌, ◌%◌, ◌^◌, ◌≤◌, ◌<◌}
use native.Mathlib.Omega.{arith}
use native.Mathlib.Nat.{zero-div}
use native.Mathlib.Decide.{dec_lt}
use mathlib.Core.Path.{◌≡◌, refl, sym, ap, ◌∙◌}
use mathlib.Core.Logic.{◌≢◌}
use mathlib.Core.List.{List, [], ◌∷◌}
use lib.ListN.{length, get_or}
use Rattle.words.specs.Edition.{Edition, block_bytes}
use Rattle.words.proofs.Sizes.{byte-on}
use Rattle.words.specs.Logic.{list_from}
use Rattle.words.specs.Memory.{Memory, memory, block_at, byte_in}
use Rattle.words.proofs.Memory.{block-length, block-outside}
use Rattle.block_log.specs.Replay.{Mapped, mapped_byte, file_byte}
use Rattle.points.specs.Lent.{part_of}
use Rattle.points.proofs.Copied.{list_from-same}

-- an index that is not 0 names its block
pub part-block : (m : Memory) (b : ℕ) → b ≢ 0 → part_of m b ≡ block_at m b
part-block m zero h = absurd (h refl)
part-block m (suc b) h = refl

-- a part of no words has bytes 0
no_byte : (part : List ℕ) → length part ≡ 0 → (k : ℕ) → byte_in part k ≡ 0
no_byte [] e k = ap (λ (x : ℕ). x % 2 ^ 8) (zero-div (2 ^ (8 * (k % 8))))
no_byte (x ∷ xs) e k = absurd (omega arith)

part-byte : (m : Memory) (b k : ℕ) → byte_in (part_of m b) k ≡ mapped_byte m b k
part-byte m zero k = no_byte [] refl k
part-byte m (suc b) k = refl

module _ (m : Memory) (b : ℕ) (part : List ℕ) (is : part ≡ part_of m b) (from n : ℕ) where
  pub part_bytes : list_from from n (byte_in part) ≡ list_from from n (mapped_byte m b)
  part_bytes = list_from-same (byte_in part) (mapped_byte m b) from from n (λ k _. rw is (part-byte m b (from + k)))

  pub hole-bytes : length part ≡ 0 → list_from 0 n (λ _. 0) ≡ list_from from n (mapped_byte m b)
  hole-bytes e = list_from-same (λ _. 0) (byte_in part) 0 from n (λ k _. sym (no_byte part e (from + k))) ∙ part_bytes

-- a part is a whole block, or empty
pub part-whole : (E : Edition) (words : List ℕ) (b : ℕ) (part : List ℕ) → part ≡ part_of (memory E words) b → length part ≢ 0
    → length part ≡ E.block_words
part-whole E words zero part e h = absurd (h (ap length e))
part-whole E words (suc b) part e h = go (dec_lt (suc b) (length words / E.block_words))
  where
    go : Dec (suc b < length words / E.block_words) → length part ≡ E.block_words
    go (yes l) = ap length e ∙ block-length E words (suc b) l
    go (no n) = absurd (h (ap length (e ∙ block-outside E words (suc b) (omega arith))))

-- n bytes of the file from byte p on, in one block: virtual block v, from its byte q on
pub file-piece :
    (E : Edition) (m : Memory) (f : Mapped) (p n v q b : ℕ) → v ≡ p / block_bytes E → q ≡ p % block_bytes E → b ≡ get_or f.table v 0
    → q + n ≤ block_bytes E
    → list_from q n (mapped_byte m b) ≡ list_from p n (file_byte E m f)
unfolding file_byte
file-piece E m f p n v q b is_block is_byte e h =
    list_from-same (mapped_byte m b) (file_byte E m f) q p n
    (λ k l. let on = byte-on E p k (omega arith) in rw (on.0, on.1, e, is_block, is_byte))
