-- What it is that a place breaks: said of the place alone, without a search. No number of an image but the block count, its chain, its log and its
-- file, all by document 01, is used. `first_fault` finds such a place (proofs/Found).
use Rattle.std.specs.Prelude.{ℕ, zero, suc, ◌+◌, ◌-◌, ◌/◌, ◌%◌, Bool, true, false, ◌&&◌, ◌||◌, not, List, [], ◌∷◌, length, get_or, take, leb, ltb, eqb}
use Rattle.words.specs.Edition.{Edition, block_bytes, blocks_min, blocks_max, chain_max}
use Rattle.words.specs.Logic.{is_zero, some_of, member, every}
use Rattle.words.specs.Memory.{Memory, memory, block_count, block_at, word_at, byte_in}
use Rattle.block_log.specs.Chain.{chain, outside, slots}
use Rattle.block_log.specs.Entry.{entry_v, entry_b, rules, covers}
use Rattle.block_log.specs.Opening.{file_of}
use Rattle.block_log.specs.Replay.{end_in}
use Rattle.inspection.specs.Told.{Fault}

-- one of a number's rules, by its place from 1 on
abbrev pub rule_at : List Bool → ℕ → Bool
rule_at tests zero = false
rule_at tests (suc k) = get_or tests k false

-- a place of a link: the superblock's word 1, or word 0 of a log block of the chain
abbrev pub is_link : Memory → ℕ → ℕ → Bool
is_link m b i = (eqb b 0 && eqb i 1) || (member b (chain m) && eqb i 0)

-- a place of an entry: a slot of a log block of the chain
abbrev pub is_slot : Edition → Memory → ℕ → ℕ → Bool
is_slot E m b i = every (member b (chain m) ∷ leb 2 i ∷ ltb i E.block_words ∷ [])

module _ (E : Edition) (words scratch : List ℕ) (f : Fault) where
  abbrev m : Memory
  m = memory E words

  -- the place holds the value named
  unfoldable pub holds : Bool
  holds = eqb (word_at m f.block f.word) f.value

  -- 1: no whole blocks; fewer than 4; more than 1,024
  unfoldable pub breaks1 : Bool
  breaks1 =
      eqb f.value (length words)
      && rule_at (not (eqb (f.value % E.block_words) 0) ∷ ltb (f.value / E.block_words) blocks_min ∷ ltb blocks_max (f.value / E.block_words) ∷ []) f.rule

  -- 2: fewer than 1,024 numbers
  unfoldable pub breaks2 : Bool
  breaks2 = eqb f.value (length scratch) && ltb f.value blocks_max

  -- 3: another mark; a word after word 1 that is not 0
  unfoldable pub breaks3 : Bool
  breaks3 =
      every (holds ∷ eqb f.block 0
      ∷ rule_at (
      (eqb f.word 0 && not (eqb f.value E.mark))
      ∷ every (leb 2 f.word ∷ ltb f.word E.block_words ∷ not (is_zero f.value) ∷ []) ∷ []) f.rule ∷ [])

  -- 4: the superblock's link is 0; a link is not below the block count
  unfoldable pub breaks4 : Bool
  breaks4 =
      every (holds ∷ is_link m f.block f.word
      ∷ rule_at ((eqb f.block 0 && is_zero f.value) ∷ outside (block_count E words) f.value ∷ []) f.rule ∷ [])

  -- 5: a link leads to a log block that is chained; the 64th log block has a link
  unfoldable pub breaks5 : Bool
  breaks5 =
      every (holds ∷ member f.block (chain m) ∷ eqb f.word 0 ∷ not (is_zero f.value)
      ∷ rule_at (member f.value (chain m) ∷ eqb (get_or (chain m) (chain_max - 1) 0) f.block ∷ []) f.rule ∷ [])

  -- 6: word 1 of a log block; an entry with an empty slot before it; a link with an empty slot
  unfoldable pub breaks6 : Bool
  breaks6 =
      every (holds ∷ member f.block (chain m) ∷ not (is_zero f.value)
      ∷ rule_at (eqb f.word 1
      ∷ every (leb 2 f.word ∷ ltb f.word E.block_words ∷ some_of is_zero (take (f.word - 2) (slots (block_at m f.block))) ∷ [])
      ∷ (eqb f.word 0 && some_of is_zero (slots (block_at m f.block))) ∷ []) f.rule ∷ [])

  -- 7: a slot's word that breaks that rule of the entry's, the first that it breaks
  unfoldable pub breaks7 : Bool
  breaks7 =
      every (holds ∷ is_slot E m f.block f.word ∷ not (is_zero f.value) ∷ leb 1 f.rule
      ∷ not (get_or (rules E (block_count E words) f.value) (f.rule - 1) true)
      ∷ every (take (f.rule - 1) (rules E (block_count E words) f.value)) ∷ [])

  -- 8: an entry maps the virtual block to the block that the file has there: a log block, or that of a virtual block before it
  unfoldable pub breaks8 : Bool
  breaks8 =
      let table = (file_of E m).table in
      let b = entry_b f.value + (f.detail - entry_v f.value) in
      every (holds ∷ is_slot E m f.block f.word ∷ covers f.detail f.value ∷ eqb (get_or table f.detail 0) b ∷ not (is_zero b)
      ∷ rule_at (member b (chain m) ∷ member b (take f.detail table) ∷ []) f.rule ∷ [])

  -- 9: a byte of the last live block, at or past the file's end
  unfoldable pub breaks9 : Bool
  breaks9 =
      let file = file_of E m in
      every (holds ∷ eqb f.block (get_or file.table ((file.size - 1) / block_bytes E) 0) ∷ eqb f.word (f.detail / 8)
      ∷ leb (end_in E file.size) f.detail ∷ ltb f.detail (block_bytes E) ∷ not (is_zero (byte_in (block_at m f.block) f.detail)) ∷ [])

  -- the place breaks the rule that is named
  unfoldable pub breaks : Bool
  breaks = rule_at (breaks1 ∷ breaks2 ∷ breaks3 ∷ breaks4 ∷ breaks5 ∷ breaks6 ∷ breaks7 ∷ breaks8 ∷ breaks9 ∷ []) f.number
