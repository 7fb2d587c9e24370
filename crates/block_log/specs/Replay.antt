-- Replay (document 01, "The image"; source document 000).
use Rattle.std.specs.Prelude.{ℕ, zero, suc, ◌+◌, ◌-◌, ◌/◌, ◌%◌, max, Bool, false, ◌&&◌, ◌||◌, not, List, [], ◌∷◌, get_or, set, replicate}
use Rattle.words.specs.Edition.{Edition, block_bytes, file_blocks}
use Rattle.words.specs.Logic.{is_zero, list_from, member, some_of, up_from, any}
use Rattle.words.specs.Memory.{Memory, block_at, byte_in}
use Rattle.block_log.specs.Entry.{entry_v, entry_b, entry_n, entry_end}

-- the file that a log gives: the logical block of each virtual one, 0 for none, and the length
pub record Mapped : Type 0 where
  pub table : List ℕ
  pub size : ℕ

-- "map v+i to b+i for i below n"
unfoldable pub map_run : List ℕ → ℕ → ℕ → ℕ → List ℕ
map_run table v b zero = table
map_run table v b (suc n) = map_run (set table v b) (suc v) (suc b) n

-- one entry: "a later entry overrules an earlier. The file's length is the greatest 512 × (v+n−1) + u"
unfoldable pub apply : Edition → Mapped → ℕ → Mapped
apply E f w = record { table = map_run f.table (entry_v w) (entry_b w) (entry_n w); size = max f.size (entry_end E w) }

-- "entries in log order"
unfoldable pub replay_on : Edition → Mapped → List ℕ → Mapped
replay_on E f [] = f
replay_on E f (w ∷ ws) = replay_on E (apply E f w) ws

-- "or 0 for an empty log"
abbrev pub empty_file : Mapped
empty_file = record { table = replicate file_blocks 0; size = 0 }

unfoldable pub replay : Edition → List ℕ → Mapped
replay E ws = replay_on E empty_file ws

-- byte k of logical block b, 0 where nothing is mapped
abbrev pub mapped_byte : Memory → ℕ → ℕ → ℕ
mapped_byte m zero k = 0
mapped_byte m (suc b) k = byte_in (block_at m (suc b)) k

-- "A byte below that length is its block's byte, or 0 where nothing is mapped"
unfoldable pub file_byte : Edition → Memory → Mapped → ℕ → ℕ
file_byte E m f p = mapped_byte m (get_or f.table (p / block_bytes E) 0) (p % block_bytes E)

unfoldable pub file_bytes : Edition → Memory → Mapped → List ℕ
file_bytes E m f = list_from 0 f.size (file_byte E m f)

-- "Blocks still mapped at the end are live"
abbrev pub live : List ℕ → ℕ → Bool
live table zero = false
live table (suc b) = member (suc b) table

-- two virtual blocks have one live block
unfoldable pub repeated : List ℕ → Bool
repeated [] = false
repeated (zero ∷ bs) = repeated bs
repeated (suc b ∷ bs) = member (suc b) bs || repeated bs

-- 8. "two virtual blocks share a live block, or a live block is a log block"
unfoldable pub shares_block : List ℕ → List ℕ → Bool
shares_block table log_blocks = any (repeated table ∷ some_of (live table) log_blocks ∷ [])

-- the byte after the last one, in its block: 1 to 512
abbrev pub end_in : Edition → ℕ → ℕ
end_in E size = (size - 1) % block_bytes E + 1

-- 9. "a byte at or past the file's end in its last live block is not 0"
unfoldable pub dirty_end : Edition → Memory → Mapped → Bool
dirty_end E m f =
    let block = block_at m (get_or f.table ((f.size - 1) / block_bytes E) 0) in
    not (is_zero f.size) && some_of (λ k. not (is_zero (byte_in block k))) (up_from (end_in E f.size) (block_bytes E - end_in E f.size))
