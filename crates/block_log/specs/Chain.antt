-- The superblock, the chain of log blocks, and the log (document 01, "The image").
use Rattle.std.specs.Prelude.{ℕ, zero, suc, Bool, ◌&&◌, not, List, [], ◌∷◌, ◌++◌, length, get_or, drop, leb, ltb, eqb}
use Rattle.words.specs.Edition.{Edition, chain_max}
use Rattle.words.specs.Logic.{is_zero, some_of, all_of, up_to_zero, any}
use Rattle.words.specs.Memory.{Memory, block_at, word_at}

-- "Block 0 is the superblock: .. word 1 the index of the first log block"
abbrev pub first_index : Memory → ℕ
first_index m = word_at m 0 1

-- "word 0 is the index of the next log block and zero ends the chain"
abbrev pub next_index : Memory → ℕ → ℕ
next_index m b = word_at m b 0

-- the indexes of the chain from `index` on, at most n of them. Past the image every word reads 0, so an index outside ends it
unfoldable pub chain_from : Memory → ℕ → ℕ → List ℕ
chain_from m zero index = []
chain_from m (suc n) zero = []
chain_from m (suc n) (suc i) = suc i ∷ chain_from m n (next_index m (suc i))

-- "At most 64 log blocks are chained"
unfoldable pub chain : Memory → List ℕ
chain m = chain_from m chain_max (first_index m)

-- "words 2 to 63 are 62 entries, zero meaning empty"
abbrev pub slots : List ℕ → List ℕ
slots block = drop 2 block

-- the entries of a log block from slot i to its first empty one
abbrev pub entries_from : ℕ → List ℕ → List ℕ
entries_from i block = up_to_zero (drop i block)

-- the slots of these log blocks, in order
unfoldable pub slots_of : Memory → List ℕ → List ℕ
slots_of m [] = []
slots_of m (b ∷ bs) = slots (block_at m b) ++ slots_of m bs

-- the log: "The first empty entry is the tail"
unfoldable pub log : Memory → List ℕ
log m = up_to_zero (slots_of m (chain m))

-- 3. "the superblock has a wrong mark or a word after word 1 that is not 0"
unfoldable pub bad_superblock : Edition → Memory → Bool
bad_superblock E m = any (not (eqb (word_at m 0 0) E.mark) ∷ not (all_of is_zero (drop 2 (block_at m 0))) ∷ [])

-- an index that is not below the block count
abbrev pub outside : ℕ → ℕ → Bool
outside blocks b = leb blocks b

-- 4. "the first log index is 0, or one of the first 64 indexes of the chain is not below the block count"
unfoldable pub bad_index : ℕ → Memory → Bool
bad_index blocks m = any (is_zero (first_index m) ∷ some_of (outside blocks) (chain m) ∷ [])

-- 5. "the chain has not ended after 64 log blocks": it has a 65th index
unfoldable pub endless : Memory → Bool
endless m = ltb chain_max (length (chain_from m (suc chain_max) (first_index m)))

-- "a word 1 other than 0, an entry after an empty one, or a next index though not full"
unfoldable pub bad_log_block : List ℕ → Bool
bad_log_block block =
    let es = entries_from 2 block in
    any (not (is_zero (get_or block 1 0))
    ∷ not (all_of is_zero (drop (length es) (slots block)))
    ∷ (not (is_zero (get_or block 0 0)) && ltb (length es) (length (slots block)))
    ∷ [])

-- 6. "a log block has .."
unfoldable pub bad_log : Memory → Bool
bad_log m = some_of (λ b. bad_log_block (block_at m b)) (chain m)
