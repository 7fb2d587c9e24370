-- A fact of numbers for every edition: shown at the four block sizes, each a numeral. `sized (λ W U. ..) (omega arith) E` is the whole proof:
-- one `omega` answers all four. W stands for the words of a block, U for the bits of the used bytes.
use mathlib.Core.Path.{◌≡◌}
use mathlib.Core.Logic.{◌≢◌}
use Prim.Native.Nat.{ℕ, ◌+◌, ◌*◌, ◌-◌, ◌/◌, ◌%◌, ◌≤◌, ◌<◌}
use native.Mathlib.Omega.{arith}
use Rattle.words.specs.Edition.{Edition, Shape, words64, words128, words256, words512, block_bytes, file_blocks, file_end}

pub record Four (P : ℕ → ℕ → Type 0) : Type 0 where
  pub at64 : P 64 10
  pub at128 : P 128 13
  pub at256 : P 256 13
  pub at512 : P 512 13

of-shape : (P : ℕ → ℕ → Type 0) → Four P → {W U : ℕ} → Shape W U → P W U
of-shape P c words64 = c.at64
of-shape P c words128 = c.at128
of-shape P c words256 = c.at256
of-shape P c words512 = c.at512

pub sized : (P : ℕ → ℕ → Type 0) → Four P → (E : Edition) → P E.block_words E.used_bits
sized P c E = of-shape P c E.shape

-- ---- products with the words of a block, as omega takes them: W * a is an unknown to it, these say how the unknowns lie

module _ (E : Edition) (a b : ℕ) where
  pub mul-le : a ≤ b → E.block_words * a ≤ E.block_words * b
  mul-le = sized (λ W U. a ≤ b → W * a ≤ W * b) (omega arith) E

  pub mul-lt : a < b → E.block_words * a + E.block_words ≤ E.block_words * b
  mul-lt = sized (λ W U. a < b → W * a + W ≤ W * b) (omega arith) E

  -- whole blocks in a words
  pub lt-quot : b < a / E.block_words → b * E.block_words + E.block_words ≤ a
  lt-quot = sized (λ W U. b < a / W → b * W + W ≤ a) (omega arith) E

  pub quot-lt : b * E.block_words + E.block_words ≤ a → b < a / E.block_words
  quot-lt = sized (λ W U. b * W + W ≤ a → b < a / W) (omega arith) E

  pub quot_is : a ≡ E.block_words * b → a / E.block_words ≡ b
  quot_is = sized (λ W U. a ≡ W * b → a / W ≡ b) (omega arith) E

-- the place of a word gives its block and its word
pub same_place : (E : Edition) (b i c j : ℕ) → i < E.block_words → j < E.block_words → E.block_words * b + i ≡ E.block_words * c + j
    → (b ≡ c) × (i ≡ j)
same_place E b i c j = sized (λ W U. i < W → j < W → W * b + i ≡ W * c + j → (b ≡ c) × (i ≡ j)) (omega arith) E

-- ---- quotients and remainders by the size of a block

module _ (E : Edition) where
  pub mul-cancel : (a b : ℕ) → E.block_words * a < E.block_words * b → a < b
  mul-cancel a b = sized (λ W U. W * a < W * b → a < b) (omega arith) E

  -- whole blocks
  pub rem-zero : (n b : ℕ) → n ≡ E.block_words * b → n % E.block_words ≡ 0
  rem-zero n b = sized (λ W U. n ≡ W * b → n % W ≡ 0) (omega arith) E

  pub whole : (n : ℕ) → n % E.block_words ≡ 0 → n ≡ E.block_words * (n / E.block_words)
  whole n = sized (λ W U. n % W ≡ 0 → n ≡ W * (n / W)) (omega arith) E

  -- a word of a run: its block, and its place there
  pub split-word : (k : ℕ) → (E.block_words * (k / E.block_words) + k % E.block_words ≡ k) × (k % E.block_words < E.block_words)
  split-word k = sized (λ W U. (W * (k / W) + k % W ≡ k) × (k % W < W)) (omega arith) E

  pub word_in : (k n : ℕ) → k < n * E.block_words → k / E.block_words < n
  word_in k n = sized (λ W U. k < n * W → k / W < n) (omega arith) E

  -- a word that is counted from the first of block b on: it lies in this block, or in a later one
  pub in_block : (b i : ℕ) → i < E.block_words → (b + i / E.block_words ≡ b) × (i % E.block_words ≡ i)
  in_block b i = sized (λ W U. i < W → (b + i / W ≡ b) × (i % W ≡ i)) (omega arith) E

  pub from_block : (b i : ℕ) → b * E.block_words + i ≡ (b + i / E.block_words) * E.block_words + i % E.block_words
  from_block b i = sized (λ W U. b * W + i ≡ (b + i / W) * W + i % W) (omega arith) E

  -- a byte of the file: the first of its block, and its place there
  pub split-byte : (x : ℕ) → (block_bytes E * (x / block_bytes E) + x % block_bytes E ≡ x) × (x % block_bytes E < block_bytes E)
  split-byte x = sized (λ W U. (8 * W * (x / (8 * W)) + x % (8 * W) ≡ x) × (x % (8 * W) < 8 * W)) (omega arith) E

  pub at_byte : (v q : ℕ) → q < block_bytes E → ((block_bytes E * v + q) / block_bytes E ≡ v) × ((block_bytes E * v + q) % block_bytes E ≡ q)
  at_byte v q = sized (λ W U. q < 8 * W → ((8 * W * v + q) / (8 * W) ≡ v) × ((8 * W * v + q) % (8 * W) ≡ q)) (omega arith) E

  -- k bytes on, still in its block
  pub byte-on :
      (x k : ℕ) → x % block_bytes E + k < block_bytes E → ((x + k) / block_bytes E ≡ x / block_bytes E) × ((x + k) % block_bytes E ≡ x % block_bytes E + k)
  byte-on x k = sized (λ W U. x % (8 * W) + k < 8 * W → ((x + k) / (8 * W) ≡ x / (8 * W)) × ((x + k) % (8 * W) ≡ x % (8 * W) + k)) (omega arith) E

  -- byte j of word k from block v on
  pub word_byte :
      (v k j : ℕ) → j < 8
      → ((v * block_bytes E + 8 * k + j) / block_bytes E ≡ v + k / E.block_words)
      × ((v * block_bytes E + 8 * k + j) % block_bytes E ≡ 8 * (k % E.block_words) + j)
  word_byte v k j =
      sized (λ W U. j < 8 → ((v * (8 * W) + 8 * k + j) / (8 * W) ≡ v + k / W) × ((v * (8 * W) + 8 * k + j) % (8 * W) ≡ 8 * (k % W) + j)) (omega arith) E

  -- the block of a byte of the file
  pub block-small : (x s : ℕ) → x < s → s ≤ file_end E → x / block_bytes E < file_blocks
  block-small x s = sized (λ W U. x < s → s ≤ file_blocks * (8 * W) → x / (8 * W) < file_blocks) (omega arith) E

-- the byte after the last of s bytes, in its block of B bytes
abbrev pub past : ℕ → ℕ → ℕ
past B s = (s - 1) % B + 1

module _ (E : Edition) where
  -- the bytes behind the end, in its block
  pub behind : (s k : ℕ) → s ≢ 0 → past (block_bytes E) s ≤ k → k < past (block_bytes E) s + (block_bytes E - past (block_bytes E) s)
      → (k < block_bytes E) × (s ≤ block_bytes E * ((s - 1) / block_bytes E) + k)
  behind s k =
      sized (λ W U. s ≢ 0 → past (8 * W) s ≤ k → k < past (8 * W) s + (8 * W - past (8 * W) s)
      → (k < 8 * W) × (s ≤ 8 * W * ((s - 1) / (8 * W)) + k))
      (omega arith) E

  pub is-behind : (s v q : ℕ) → q < block_bytes E → block_bytes E * v < s → s ≤ block_bytes E * v + q
      → ((s - 1) / block_bytes E ≡ v) × (past (block_bytes E) s ≤ q) × (q < past (block_bytes E) s + (block_bytes E - past (block_bytes E) s))
  is-behind s v q =
      sized (λ W U. q < 8 * W → 8 * W * v < s → s ≤ 8 * W * v + q
      → ((s - 1) / (8 * W) ≡ v) × (past (8 * W) s ≤ q) × (q < past (8 * W) s + (8 * W - past (8 * W) s))) (omega arith) E
