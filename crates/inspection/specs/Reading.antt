-- What can be read of an image, whether or not it opens: its log blocks, its entries, the file that these give, and what each block is used for.
use Rattle.std.specs.Prelude.{ℕ, zero, suc, ◌+◌, ◌-◌, ◌/◌, ◌%◌, max, Bool, true, false, List, [], ◌∷◌, ◌++◌, get_or}
use Rattle.words.specs.Edition.{Edition, chain_max}
use Rattle.words.specs.Logic.{is_zero, some_of, any, member}
use Rattle.words.specs.Memory.{Memory}
use Rattle.words.specs.BlockMap.{map_word, map_of}
use Rattle.words.specs.Search.{free_ahead}
use Rattle.block_log.specs.Chain.{first_index, next_index, outside, slots_of}
use Rattle.block_log.specs.Entry.{entry_v, entry_n, legal, covers}
use Rattle.block_log.specs.Opening.{taken_at_opening}
use Rattle.block_log.specs.Replay.{Mapped, replay, live}

-- ---- the log

-- the chain is read no further at an index that is 0, outside the image, or read already
abbrev pub stops_at : ℕ → List ℕ → ℕ → Bool
stops_at blocks seen index = any (is_zero index ∷ outside blocks index ∷ member index seen ∷ [])

-- the log blocks read, with at most n more behind those read so far
unfoldable pub read_on : ℕ → Memory → ℕ → List ℕ → ℕ → List ℕ
read_on blocks m zero seen index = seen
read_on blocks m (suc n) seen index =
    elim (stops_at blocks seen index) [ true ↦ seen | false ↦ read_on blocks m n (seen ++ index ∷ []) (next_index m index) ]

-- the log blocks that can be read: from the superblock on, at most 64
unfoldable pub read_chain : ℕ → Memory → List ℕ
read_chain blocks m = read_on blocks m chain_max [] (first_index m)

-- the words before the first that is no legal entry; an empty word is none, its count being 0
unfoldable pub while_legal : Edition → ℕ → List ℕ → List ℕ
while_legal E blocks [] = []
while_legal E blocks (w ∷ ws) = elim (legal E blocks w) [ true ↦ w ∷ while_legal E blocks ws | false ↦ [] ]

-- the entries that can be read
unfoldable pub read_log : Edition → ℕ → Memory → List ℕ
read_log E blocks m = while_legal E blocks (slots_of m (read_chain blocks m))

-- where word j of the slots of these log blocks stands: its log block and its slot
abbrev pub block_of : Edition → List ℕ → ℕ → ℕ
block_of E chain j = get_or chain (j / (E.block_words - 2)) 0

abbrev pub slot_of : Edition → ℕ → ℕ
slot_of E j = 2 + j % (E.block_words - 2)

-- which blocks of an entry are overruled by those behind it: bit i stands for its block i, "a later entry overrules an earlier"
unfoldable pub overruled : ℕ → List ℕ → ℕ
overruled w later = map_word (λ v. some_of (covers v) later) (entry_v w) (entry_n w)

-- the same of each entry
unfoldable pub overruled_all : List ℕ → List ℕ
overruled_all [] = []
overruled_all (w ∷ ws) = overruled w ws ∷ overruled_all ws

-- ---- the file, and the blocks

-- the file that the entries give
unfoldable pub read_file : Edition → ℕ → Memory → Mapped
read_file E blocks m = replay E (read_log E blocks m)

-- the blocks taken by what was read
unfoldable pub read_taken : Edition → ℕ → Memory → List ℕ
read_taken E blocks m = map_of (taken_at_opening (read_file E blocks m).table (read_chain blocks m))

-- a block's use: 0 superblock, 1 log, 2 live, 3 free
unfoldable pub use_of : List ℕ → List ℕ → ℕ → ℕ
use_of table chain zero = 0
use_of table chain (suc b) = elim (member (suc b) chain) [ true ↦ 1 | false ↦ elim (live table (suc b)) [ true ↦ 2 | false ↦ 3 ] ]

-- the most free blocks in a row among the n from b on
unfoldable pub longest_from : List ℕ → ℕ → ℕ → ℕ
longest_from map b zero = 0
longest_from map b (suc n) = max (free_ahead map b (suc n)) (longest_from map (suc b) n)

-- the longest free stretch; block 0 is never free
unfoldable pub longest_free : List ℕ → ℕ → ℕ
longest_free map blocks = longest_from map 1 (blocks - 1)
