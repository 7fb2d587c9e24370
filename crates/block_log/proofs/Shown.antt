-- The byte that a table shows: of the block mapped at a virtual block, 0 where nothing is mapped. It is the definitions' `mapped_byte`.
-- Two images that agree on the mapped block show the same.
use mathlib.Core.Path.{◌≡◌, refl}
use mathlib.Core.Logic.{◌≢◌}
use mathlib.Core.List.{List}
use Prim.Native.Nat.{ℕ, zero, suc, ◌*◌, ◌/◌, ◌%◌, ◌<◌}
use native.Mathlib.Omega.{arith}
use lib.ListN.{length, get_or}
use Rattle.words.specs.Edition.{Edition, block_bytes}
use Rattle.words.specs.Memory.{memory}
use Rattle.block_log.specs.Replay.{mapped_byte}
use Rattle.words.proofs.Grid.{word_at, word-view}
use Rattle.words.proofs.WordBytes.{byte_of, byte_at, byte_at-same, byte_small}

-- what is mapped at block b, or zeros at 0
unfoldable pub held : Edition → List ℕ → ℕ → ℕ → ℕ
held E I zero q = 0
held E I (suc b) q = byte_at E I (suc b) q

pub held_small : (E : Edition) (I : List ℕ) (b q : ℕ) → held E I b q < 256
unfolding held byte_at
held_small E I zero q = omega arith
held_small E I (suc b) q = byte_small (word_at E I (suc b) (q / 8)) (q % 8)

pub held-block : (E : Edition) (I : List ℕ) (b q : ℕ) → b ≢ 0 → held E I b q ≡ byte_at E I b q
unfolding held
held-block E I zero q h = absurd (h refl)
held-block E I (suc b) q h = refl

pub held_same :
    (E : Edition) (I J : List ℕ) (b q : ℕ) → q < block_bytes E → (b ≢ 0 → (i : ℕ) → i < E.block_words → word_at E J b i ≡ word_at E I b i)
    → held E J b q ≡ held E I b q
unfolding held
held_same E I J zero q hq h = refl
held_same E I J (suc b) q hq h = byte_at-same E I J (suc b) q (h (omega arith) (q / 8) (omega arith))

-- byte q of virtual block v under the table T
abbrev pub shown : Edition → List ℕ → List ℕ → ℕ → ℕ → ℕ
shown E I T v q = held E I (get_or T v 0) q

module _ (E : Edition) (I : List ℕ) (B : ℕ) (size : length I ≡ E.block_words * B) where
  pub byte-view : (b k : ℕ) → k < block_bytes E → mapped_byte (memory E I) b k ≡ held E I b k
  unfolding held byte_at byte_of
  byte-view zero k h = refl
  byte-view (suc b) k h = rw (word-view E I B size (suc b) (k / 8) (omega arith))
