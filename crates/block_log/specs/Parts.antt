-- What inner functions ask for and answer, for their contracts. Nothing here is promised: `CatchUp` and `Opening` have what is.
use Rattle.std.specs.Prelude.{ℕ, zero, suc, ◌+◌, ◌<◌, ◌≤◌, ◌≡◌, Bool, true, false, ◌||◌, List, [], ◌∷◌, length, get_or, ltb, eqb}
use Rattle.words.specs.Edition.{one, block_bytes, file_blocks, blocks_max}
use Rattle.words.specs.Logic.{some_of, member, Reason, ◌when◌}
use Rattle.words.specs.Memory.{Memory, memory, block_count, wrong_size}
use Rattle.words.specs.BlockMap.{taken, set_block, set_all, map_of}
use Rattle.block_log.specs.declared.Place.{Place}
use Rattle.block_log.specs.Chain.{first_index, chain, outside, bad_superblock, bad_index, endless, bad_log}
use Rattle.block_log.specs.Entry.{entry_v, entry_b, entry_n, entry_u}
use Rattle.block_log.specs.Opening.{taken_at_opening, cleared}
use Rattle.block_log.specs.Replay.{shares_block}

-- ---- catching up

-- an entry whose fields alone allow it to be taken in
abbrev pub Mappable : ℕ → Type 0
Mappable e = (1 ≤ entry_n e) × (entry_v e + entry_n e ≤ file_blocks) × (entry_b e + entry_n e ≤ blocks_max) × (entry_u one e ≤ block_bytes one)

-- ---- opening

-- the reasons 4 to 6, and 1 to 6
abbrev pub chain_reasons : ℕ → Memory → List Reason
chain_reasons blocks m = 4 when bad_index blocks m ∷ 5 when endless m ∷ 6 when bad_log m ∷ []

unfoldable pub early : List ℕ → ℕ → List Reason
early words room =
    1 when wrong_size one words
    ∷ 2 when ltb room blocks_max
    ∷ 3 when bad_superblock one (memory one words)
    ∷ chain_reasons (block_count one words) (memory one words)

-- the log place at the log's start
abbrev pub start_of : List ℕ → Place
start_of words = record { block = first_index (memory one words); slot = 2 }

-- whether taking the blocks listed, one after the other, meets one that is taken; 0 stands for no block
unfoldable pub clash : List ℕ → List ℕ → Bool
clash map [] = false
clash map (zero ∷ bs) = clash map bs
clash map (suc b ∷ bs) = taken map (suc b) || clash (set_block true map (suc b)) bs

-- these blocks become taken; `met` is whether one was taken already
abbrev pub TakesBlocks : List ℕ → List ℕ → List ℕ → Bool → Type 0
TakesBlocks blocks before after met = (after ≡ set_all true before blocks) × (met ≡ clash before blocks)

-- the map of opening, and whether reason 8 holds
abbrev pub TakesAll : List ℕ → List ℕ → List ℕ → Bool → Type 0
TakesAll words table map met =
    let log_blocks = chain (memory one words) in
    (met ≡ shares_block table log_blocks) × (map ≡ map_of (taken_at_opening table log_blocks))

-- place i of a scratch in which each block of the table is marked with one more than its virtual block, the table's first being v
unfoldable pub live_mark : List ℕ → ℕ → List ℕ → ℕ → ℕ
live_mark [] v scratch i = get_or scratch i 0
live_mark (b ∷ bs) v scratch i = elim (eqb i b) [ true ↦ suc v | false ↦ live_mark bs (suc v) scratch i ]

-- place i of a scratch in which these log blocks are marked
unfoldable pub chain_mark : List ℕ → List ℕ → ℕ → ℕ
chain_mark bs scratch i = elim (member i bs) [ true ↦ 65535 | false ↦ get_or scratch i 0 ]

-- a scratch has these marks, by place
abbrev pub HasMarks : (ℕ → ℕ) → List ℕ → Type 0
HasMarks mark scratch = (i : ℕ) → get_or scratch i 0 ≡ mark i

-- the scratch has room for every block's mark
abbrev pub LongEnough : List ℕ → Type 0
LongEnough scratch = blocks_max ≤ length scratch

-- the table has 256 entries, all below 1,024
pub record TableFits (table : List ℕ) : Type 0 where
  pub entries : length table ≡ 256
  pub inside : (v : ℕ) → get_or table v 0 < 1024

-- the log blocks are below 1,024
abbrev pub ChainFits : List ℕ → Type 0
ChainFits words = some_of (outside 1024) (chain (memory one words)) ≡ false

-- what is known of the table and the chain once 1 to 7 are passed, and of the scratch once it is cleared
pub record Takable (words table : List ℕ) : Type 0 where
  pub fits : TableFits table
  pub chained : ChainFits words

pub record Markable (words table scratch : List ℕ) : Type 0 where
  pub known : Takable words table
  pub long : LongEnough scratch
  pub clear : scratch ≡ cleared scratch
