-- Where a write lies: an offset o and n bytes of text, at least one, in blocks of B bytes. The only place where an offset is divided for its run: all
-- other proofs, those of recovery too, use these facts. Assumes nothing.
use mathlib.Core.Path.{◌≡◌}
use Prim.Native.Nat.{ℕ, ◌+◌, ◌*◌, ◌-◌, ◌/◌, ◌≤◌, ◌<◌}
use native.Mathlib.Omega.{arith}
use Rattle.words.specs.Edition.{Edition, block_bytes, file_blocks}
use Rattle.words.proofs.Sizes.{sized}

-- the first block; the blocks spanned; the bytes of the file before the last of them
abbrev pub first : ℕ → ℕ → ℕ
first B o = o / B

abbrev pub spanned : ℕ → ℕ → ℕ → ℕ
spanned B o n = (o + n - 1) / B - first B o + 1

abbrev pub before : ℕ → ℕ → ℕ → ℕ
before B o n = B * (first B o + spanned B o n - 1)

pub record Lies (B o n : ℕ) : Type 0 where
  pub low : B * first B o ≤ o
  pub near : o < B * first B o + B
  pub high : o + n ≤ B * (first B o + spanned B o n)
  pub last : B * (first B o + spanned B o n) < o + n + B
  -- the used bytes of the last block
  pub is_used : before B o n + (o + n - before B o n) ≡ o + n
  pub used_low : 1 ≤ o + n - before B o n
  pub used_high : o + n - before B o n ≤ B
  -- the run lies in the file; a text of 1,024 bytes spans few blocks
  pub in_file : o + n ≤ file_blocks * B → first B o + spanned B o n ≤ file_blocks
  pub few : n ≤ 1024 → spanned B o n ≤ 3
  pub most : n ≤ 1024 → spanned B o n ≤ 1022 / B + 2

pub lies : (E : Edition) (o n : ℕ) → 1 ≤ n → Lies (block_bytes E) o n
lies E o n = sized (λ W U. 1 ≤ n → Lies (8 * W) o n) (omega arith) E
