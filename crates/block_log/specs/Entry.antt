-- "An entry" (document 01, "The image").
use Rattle.std.specs.Prelude.{ℕ, ◌+◌, ◌*◌, ◌-◌, ◌^◌, Bool, ◌&&◌, List, [], ◌∷◌, leb, ltb, eqb}
use Rattle.words.specs.Edition.{Edition, block_bytes, file_blocks}
use Rattle.words.specs.Logic.{every}
use Rattle.words.specs.Word.{bits}

-- "bits 0 to 15 the first virtual block v"
unfoldable pub entry_v : ℕ → ℕ
entry_v w = bits w 0 16

-- "bits 16 to 31 the first logical (image) block b"
unfoldable pub entry_b : ℕ → ℕ
entry_b w = bits w 16 16

-- "bits 32 to 39 the count n, 1 to 64"
unfoldable pub entry_n : ℕ → ℕ
entry_n w = bits w 32 8

-- "bits 40 to 49 the used bytes u of the last block, 1 to 512"
unfoldable pub entry_u : Edition → ℕ → ℕ
entry_u E w = bits w 40 E.used_bits

-- "bits 50 to 54 the point number, 0 to 31"
unfoldable pub entry_point : Edition → ℕ → ℕ
entry_point E w = bits w (40 + E.used_bits) 5

-- "bits 55 to 63 are 0"
unfoldable pub entry_rest : Edition → ℕ → ℕ
entry_rest E w = bits w (45 + E.used_bits) (19 - E.used_bits)

-- the entry with these fields
abbrev pub entry_of : Edition → ℕ → ℕ → ℕ → ℕ → ℕ → ℕ
entry_of E v b n u point = v + b * 2 ^ 16 + n * 2 ^ 32 + u * 2 ^ 40 + point * 2 ^ (40 + E.used_bits)

-- "n, 1 to 64", "u .. 1 to 512", "bits 55 to 63 are 0. v+n is at most 256. b is at least 1 and b+n is at most the image's block count."
abbrev pub rules : Edition → ℕ → ℕ → List Bool
rules E blocks w =
    leb 1 (entry_n w)
    ∷ leb (entry_n w) 64
    ∷ leb 1 (entry_u E w)
    ∷ leb (entry_u E w) (block_bytes E)
    ∷ eqb (entry_rest E w) 0
    ∷ leb (entry_v w + entry_n w) file_blocks
    ∷ leb 1 (entry_b w)
    ∷ leb (entry_b w + entry_n w) blocks
    ∷ []

unfoldable pub legal : Edition → ℕ → ℕ → Bool
legal E blocks w = every (rules E blocks w)

-- the last virtual block of the entry is its first + count - 1, and its bytes end here
abbrev pub entry_end : Edition → ℕ → ℕ
entry_end E w = block_bytes E * (entry_v w + entry_n w - 1) + entry_u E w

-- the entry maps virtual block v
abbrev pub covers : ℕ → ℕ → Bool
covers v w = leb (entry_v w) v && ltb v (entry_v w + entry_n w)
