-- For the contracts of the search: what looks at map words show. Nothing here is needed to say what is found.
use Rattle.std.specs.Prelude.{ℕ, zero, suc, ◌+◌, ◌-◌, ◌*◌, ◌/◌, ◌^◌, ◌≤◌, ◌<◌, min, ◌≡◌, ◌⊎◌, true, false, List, length}
use Rattle.std.specs.Int.Bits.{bit_or}
use Rattle.words.specs.BlockMap.{taken}

-- a word without its bits below bit j
unfoldable pub from_bit : ℕ → ℕ → ℕ
from_bit w j = w / 2 ^ j * 2 ^ j

-- the bits at which w has a one, or within the next m
unfoldable pub blocked_in : ℕ → ℕ → ℕ
blocked_in w zero = w
blocked_in w (suc m) = let t = blocked_in w m in bit_or t (t / 2)

-- the map words that tell of the image's blocks
abbrev pub Whole : List ℕ → ℕ → ℕ → Type 0
Whole map blocks words = words ≡ min ((blocks + 63) / 64) (length map)

-- block 1, or a block behind a taken one
abbrev pub Begins : List ℕ → ℕ → Type 0
Begins map s = (s ≡ 1) ⊎ (taken map (s - 1) ≡ true)

-- where a search may go on: such a block, or one that is taken itself
abbrev pub Resumes : List ℕ → ℕ → Type 0
Resumes map s = Begins map s ⊎ (taken map s ≡ true)

-- a taken block ends every run of n blocks from x on
pub record Blocked (map : List ℕ) (n x : ℕ) : Type 0 where
  pub at : ℕ
  pub from : x ≤ at
  pub near : (at ≡ x) ⊎ (at < x + n)
  pub is_taken : taken map at ≡ true

-- from s to t no run of n blocks begins; at t a stretch does, where t is a block of the image
pub record Passes (map : List ℕ) (blocks n s t : ℕ) : Type 0 where
  pub from : s ≤ t
  pub blocked : (x : ℕ) → s ≤ x → x < t → Blocked map n x
  pub begins : t < blocks → Begins map t
  pub is_free : t < blocks → taken map t ≡ false
