-- What inner functions ask for and answer, for their contracts. Nothing here is promised: `Inspecting` has what is.
use Rattle.std.specs.Prelude.{ℕ, zero, suc, ◌+◌, ◌*◌, ◌≤◌, ◌≡◌, Bool, true, false, not, List, [], ◌∷◌, ◌++◌, length, get_or, take, drop, replicate}
use Rattle.words.specs.Edition.{Edition, one}
use Rattle.words.specs.Logic.{is_zero, all_of, some_of, any, member}
use Rattle.words.specs.Memory.{Memory, memory, block_count, wrong_size}
use Rattle.words.specs.BlockMap.{taken, set_all}
use Rattle.block_log.specs.Chain.{outside, slots, slots_of}
use Rattle.block_log.specs.Entry.{legal}
use Rattle.block_log.specs.Replay.{Mapped}
use Rattle.inspection.specs.Told.{Fault}
use Rattle.inspection.specs.Reading.{read_chain, read_log, read_file, while_legal, block_of, slot_of}
use Rattle.inspection.specs.Faults.{fault_at, rule_of, last_covering}

-- an array whose front is this list, and the rest as before
abbrev pub Front : List ℕ → List ℕ → List ℕ → Type 0
Front xs before after = after ≡ xs ++ drop (length xs) before

-- whether the chain is read no further, with a map of the log blocks read
abbrev pub stops_in : ℕ → List ℕ → ℕ → Bool
stops_in blocks map index = any (is_zero index ∷ outside blocks index ∷ taken map index ∷ [])

-- these blocks, and no others, are in the map
abbrev pub map_with : List ℕ → List ℕ
map_with bs = set_all true (replicate 16 0) bs

-- a chain of this many log blocks is read: the array, and the map
pub record ReadsChain (words : List ℕ) (blocks : ℕ) (before after : List ℕ) (n : ℕ) (marks : List ℕ) : Type 0 where
  pub front : Front (read_chain blocks (memory one words)) before after
  pub count : n ≡ length (read_chain blocks (memory one words))
  pub map : marks ≡ map_with (read_chain blocks (memory one words))

-- the image is so many whole blocks, and these log blocks are inside
pub record Inside (words : List ℕ) (blocks : ℕ) (chain : List ℕ) : Type 0 where
  pub whole : length words ≡ 64 * blocks
  pub few : blocks ≤ 1024
  pub short : length chain ≤ 64
  pub chained : some_of (outside blocks) chain ≡ false

-- the legal entries of these words lie behind the first n
abbrev pub PartRead : List ℕ → ℕ → ℕ → List ℕ → List ℕ → ℕ → Type 0
PartRead part blocks n before after r =
    let es = while_legal one blocks (slots part) in
    (r ≡ n + length es) × (after ≡ take n before ++ es ++ drop r before)

-- the legal entries of these log blocks lie at the front
abbrev pub LogRead : List ℕ → ℕ → List ℕ → List ℕ → List ℕ → ℕ → Type 0
LogRead words blocks chain before after r =
    let es = while_legal one blocks (slots_of (memory one words) chain) in
    (r ≡ length es) × Front es before after

-- these are legal entries
abbrev pub AllLegal : List ℕ → Type 0
AllLegal entries = all_of (legal one 1024) entries ≡ true

-- a block's use by the maps of log blocks and of taken blocks
unfoldable pub use_in : List ℕ → List ℕ → ℕ → ℕ
use_in logs map zero = 0
use_in logs map (suc b) = elim (taken logs (suc b)) [ true ↦ 1 | false ↦ elim (taken map (suc b)) [ true ↦ 2 | false ↦ 3 ] ]

-- these log blocks are in the map, and nothing else
abbrev pub MapOfChain : List ℕ → List ℕ → Type 0
MapOfChain map chain = (b : ℕ) → taken map b ≡ member b chain

-- a block is taken, 0 being none
abbrev pub clashes_at : List ℕ → ℕ → Bool
clashes_at map zero = false
clashes_at map (suc b) = taken map (suc b)

-- the first of these blocks that is taken when those before it are
unfoldable pub first_clash : List ℕ → List ℕ → ℕ
first_clash map [] = 0
first_clash map (b ∷ bs) = elim (clashes_at map b) [ true ↦ 0 | false ↦ suc (first_clash (set_all true map (b ∷ [])) bs) ]

-- 8, with the map of log blocks
unfoldable pub shared_by : Edition → Memory → List ℕ → List ℕ → List ℕ → List ℕ → Fault
shared_by E m chain logs log table =
    let v = first_clash logs table in
    let j = last_covering v log in
    fault_at m 8 (rule_of (not (taken logs (get_or table v 0)))) (block_of E chain j) (slot_of E j) v

-- what was read of an image of a right size: its log blocks and their map, its entries, and its file
pub record Readings (words chained map written rows : List ℕ) (end : ℕ) : Type 0 where
  pub size : wrong_size one words ≡ false
  pub chain : chained ≡ read_chain (block_count one words) (memory one words)
  pub logs : map ≡ map_with (read_chain (block_count one words) (memory one words))
  pub entries : written ≡ read_log one (block_count one words) (memory one words)
  pub file : ◌≡◌ {A = Mapped} (record { table = rows; size = end }) (read_file one (block_count one words) (memory one words))
