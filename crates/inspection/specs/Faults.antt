-- The first fault of an image that opening refuses: for each of the numbers 1 to 9 which rule of it is broken, and where.
-- A number has several rules, counted from 1 on in the order of document 01's sentence.
use Rattle.std.specs.Prelude.{ℕ, zero, suc, ◌+◌, ◌-◌, ◌/◌, ◌%◌, Bool, true, false, ◌&&◌, ◌||◌, not, List, [], ◌∷◌, length, get_or, drop, ltb, eqb}
use Rattle.words.specs.Edition.{Edition, block_bytes, blocks_min, blocks_max}
use Rattle.words.specs.Logic.{is_zero, one_if, some_of, all_of, member}
use Rattle.words.specs.Memory.{Memory, memory, block_count, block_at, word_at, byte_in}
use Rattle.block_log.specs.Chain.{entries_from, bad_log_block}
use Rattle.block_log.specs.Entry.{rules, covers}
use Rattle.block_log.specs.Opening.{open_refusal}
use Rattle.block_log.specs.Replay.{Mapped, end_in}
use Rattle.inspection.specs.Told.{Fault}
use Rattle.inspection.specs.Reading.{read_chain, read_log, read_file, block_of, slot_of}

-- rule `rule` of number `number` is broken by a word of the image. `detail` is the virtual block of 8 and the byte in its block of 9, else 0
abbrev pub fault_at : Memory → ℕ → ℕ → ℕ → ℕ → ℕ → Fault
fault_at m number rule block word detail =
    record { number = number; rule = rule; block = block; word = word; value = word_at m block word; detail = detail }

abbrev pub no_fault : Fault
no_fault = record { number = 0; rule = 0; block = 0; word = 0; value = 0; detail = 0 }

-- a rule of two: the first where the test fails, else the second
abbrev pub rule_of : Bool → ℕ
rule_of false = 1
rule_of true = 2

-- ---- 1 and 2

-- 1: whole blocks; at least 4; at most 1,024. The place is the first word that is missing, or too many; the value is the number of words
unfoldable pub size_fault : Edition → ℕ → Fault
size_fault E n =
    let blocks = n / E.block_words in
    elim (eqb (n % E.block_words) 0) [
      | false ↦ record { number = 1; rule = 1; block = blocks; word = n % E.block_words; value = n; detail = 0 }
      | true ↦
          elim (ltb blocks blocks_min) [
            | true ↦ record { number = 1; rule = 2; block = blocks; word = 0; value = n; detail = 0 }
            | false ↦ record { number = 1; rule = 3; block = blocks_max; word = 0; value = n; detail = 0 }
          ]
    ]

-- 2: a scratch of 1,024 numbers. It is no place of the image; the value is how many there are
abbrev pub scratch_fault : ℕ → Fault
scratch_fault n = record { number = 2; rule = 1; block = 0; word = 0; value = n; detail = 0 }

-- ---- 3

-- how many zeros stand before the first other number
unfoldable pub zeros_ahead : List ℕ → ℕ
zeros_ahead [] = 0
zeros_ahead (zero ∷ ws) = suc (zeros_ahead ws)
zeros_ahead (suc w ∷ ws) = 0

-- 3: the mark; zeros after word 1
unfoldable pub super_fault : Edition → Memory → Fault
super_fault E m =
    elim (eqb (word_at m 0 0) E.mark) [ false ↦ fault_at m 3 1 0 0 0 | true ↦ fault_at m 3 2 0 (2 + zeros_ahead (drop 2 (block_at m 0))) 0 ]

-- ---- 4 and 5

-- the link behind the last of these log blocks is its word 0; behind none, word 1 of the superblock
abbrev pub last_of : List ℕ → ℕ
last_of chain = get_or chain (length chain - 1) 0

abbrev pub link_word : List ℕ → ℕ
link_word chain = one_if (is_zero (length chain))

abbrev pub link_value : Memory → List ℕ → ℕ
link_value m chain = word_at m (last_of chain) (link_word chain)

-- the link at which the chain is read no further
abbrev pub link_fault : Memory → ℕ → ℕ → List ℕ → Fault
link_fault m number rule chain = fault_at m number rule (last_of chain) (link_word chain) 0

-- 4: the first log index is not 0; an index is below the block count
unfoldable pub index_fault : Memory → List ℕ → Fault
index_fault m chain = link_fault m 4 (rule_of (not (is_zero (link_value m chain)))) chain

-- 5: no log block is chained twice; no 65th is chained
unfoldable pub endless_fault : Memory → List ℕ → Fault
endless_fault m chain = link_fault m 5 (rule_of (not (member (link_value m chain) chain))) chain

-- ---- 6

-- the first of these log blocks that 6 speaks of, 0 where there is none
unfoldable pub first_bad : Memory → List ℕ → ℕ
first_bad m [] = 0
first_bad m (b ∷ bs) = elim (bad_log_block (block_at m b)) [ true ↦ b | false ↦ first_bad m bs ]

-- 6: word 1 is 0; no entry after an empty one; no next index unless full
unfoldable pub block_fault : Memory → ℕ → Fault
block_fault m b =
    let block = block_at m b in
    let tail = 2 + length (entries_from 2 block) in
    elim (is_zero (word_at m b 1)) [
      | false ↦ fault_at m 6 1 b 1 0
      | true ↦ elim (all_of is_zero (drop tail block)) [ false ↦ fault_at m 6 2 b (tail + zeros_ahead (drop tail block)) 0 | true ↦ fault_at m 6 3 b 0 0 ]
    ]

-- ---- 7

-- the place of the first test that fails, from 1 on
unfoldable pub first_broken : List Bool → ℕ
first_broken [] = 0
first_broken (t ∷ ts) = elim t [ true ↦ suc (first_broken ts) | false ↦ 1 ]

-- 7: the entry's rules, in their order; the word behind the entries that can be read breaks one
unfoldable pub entry_fault : Edition → ℕ → Memory → List ℕ → ℕ → Fault
entry_fault E blocks m chain j =
    let b = block_of E chain j in
    let i = slot_of E j in
    fault_at m 7 (first_broken (rules E blocks (word_at m b i))) b i 0

-- ---- 8

-- the first virtual block whose block is a log block, or that of a virtual block before it
unfoldable pub first_shared : List ℕ → List ℕ → List ℕ → ℕ
first_shared chain before [] = 0
first_shared chain before (b ∷ bs) =
    elim (not (is_zero b) && (member b chain || member b before)) [ true ↦ 0 | false ↦ suc (first_shared chain (b ∷ before) bs) ]

-- the place of the last entry that covers virtual block v, 0 where none does
unfoldable pub last_covering : ℕ → List ℕ → ℕ
last_covering v [] = 0
last_covering v (w ∷ ws) = elim (some_of (covers v) ws) [ true ↦ suc (last_covering v ws) | false ↦ 0 ]

-- 8: a live block is no log block; no two virtual blocks share one. The place is the entry that maps the virtual block by now
unfoldable pub shared_fault : Edition → Memory → List ℕ → List ℕ → List ℕ → Fault
shared_fault E m chain log table =
    let v = first_shared chain [] table in
    let j = last_covering v log in
    fault_at m 8 (rule_of (not (member (get_or table v 0) chain))) (block_of E chain j) (slot_of E j) v

-- ---- 9

-- of the n bytes of a block from k on the first that is not 0
unfoldable pub first_byte : List ℕ → ℕ → ℕ → ℕ
first_byte block k zero = k
first_byte block k (suc n) = elim (is_zero (byte_in block k)) [ true ↦ first_byte block (suc k) n | false ↦ k ]

-- 9: zeros at and past the file's end in its last live block
unfoldable pub end_fault : Edition → Memory → Mapped → Fault
end_fault E m f =
    let b = get_or f.table ((f.size - 1) / block_bytes E) 0 in
    let k = first_byte (block_at m b) (end_in E f.size) (block_bytes E - end_in E f.size) in
    fault_at m 9 1 b (k / 8) k

-- ---- the first fault

-- by opening's number
unfoldable pub first_fault : Edition → List ℕ → List ℕ → Fault
first_fault E words scratch =
    let m = memory E words in
    let blocks = block_count E words in
    let chain = read_chain blocks m in
    let log = read_log E blocks m in
    let file = read_file E blocks m in
    get_or (no_fault
    ∷ size_fault E (length words)
    ∷ scratch_fault (length scratch)
    ∷ super_fault E m
    ∷ index_fault m chain
    ∷ endless_fault m chain
    ∷ block_fault m (first_bad m chain)
    ∷ entry_fault E blocks m chain (length log)
    ∷ shared_fault E m chain log file.table
    ∷ end_fault E m file
    ∷ []) (open_refusal E words scratch) no_fault
