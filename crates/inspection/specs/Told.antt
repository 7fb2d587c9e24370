-- What inspecting tells, in numbers: the values that the definitions speak of, and how the answer's types name them.
use Rattle.std.specs.Prelude.{ℕ, List, [], ◌∷◌, Option, None, Some}
use Rattle.inspection.specs.declared.Fault.{Fault as Held}
use Rattle.inspection.specs.declared.Found.{Found}
use Rattle.inspection.specs.declared.Rule.{Rule}
use Rattle.inspection.specs.declared.Rule.TheVariants.{WholeBlocks, FewestBlocks, MostBlocks, ScratchLong, Mark, SuperblockZeros, FirstLogIndex}
use Rattle.inspection.specs.declared.Rule.TheVariants.{LogIndexInside, ChainedOnce, ChainEnds, LogBlockZero, NoEntryAfterEmpty, LinkOfFull}
use Rattle.inspection.specs.declared.Rule.TheVariants.{FewestMapped, MostMapped, FewestUsed, MostUsed, EntryZeros, VirtualBlocks, NotBlockZero, BlocksInside}
use Rattle.inspection.specs.declared.Rule.TheVariants.{NoLogBlock, NotShared, EndZeros}
use Rattle.inspection.specs.declared.Use.{Use}
use Rattle.inspection.specs.declared.Use.TheVariants.{Superblock, Log, Live, Free}

-- a rule that an image breaks: opening's number, 0 for none; which of that number's rules, from 1 on; the place, a block and a word in it, and what it
-- holds; and for 8 the virtual block, for 9 the byte in the block
pub record Fault : Type 0 where
  pub number : ℕ
  pub rule : ℕ
  pub block : ℕ
  pub word : ℕ
  pub value : ℕ
  pub detail : ℕ

-- the fault, and what can be read: the log blocks in chain order, the entries in log order, for each entry which of its blocks are overruled, bit i for its
-- block i, the table, and the use of each block. Zeros stand behind the last log block and entry
pub record Inspected : Type 0 where
  pub fault : Fault
  pub found : Found
  pub chain : List ℕ
  pub entries : List ℕ
  pub overruled : List ℕ
  pub table : List ℕ
  pub uses : List ℕ

-- the number of opening's refusal to which a rule belongs
abbrev pub rule_number : Rule → ℕ
rule_number WholeBlocks = 1
rule_number FewestBlocks = 1
rule_number MostBlocks = 1
rule_number ScratchLong = 2
rule_number Mark = 3
rule_number SuperblockZeros = 3
rule_number FirstLogIndex = 4
rule_number LogIndexInside = 4
rule_number ChainedOnce = 5
rule_number ChainEnds = 5
rule_number LogBlockZero = 6
rule_number NoEntryAfterEmpty = 6
rule_number LinkOfFull = 6
rule_number FewestMapped = 7
rule_number MostMapped = 7
rule_number FewestUsed = 7
rule_number MostUsed = 7
rule_number EntryZeros = 7
rule_number VirtualBlocks = 7
rule_number NotBlockZero = 7
rule_number BlocksInside = 7
rule_number NoLogBlock = 8
rule_number NotShared = 8
rule_number EndZeros = 9

-- which of that number's rules it is, from 1 on
abbrev pub rule_place : Rule → ℕ
rule_place WholeBlocks = 1
rule_place FewestBlocks = 2
rule_place MostBlocks = 3
rule_place ScratchLong = 1
rule_place Mark = 1
rule_place SuperblockZeros = 2
rule_place FirstLogIndex = 1
rule_place LogIndexInside = 2
rule_place ChainedOnce = 1
rule_place ChainEnds = 2
rule_place LogBlockZero = 1
rule_place NoEntryAfterEmpty = 2
rule_place LinkOfFull = 3
rule_place FewestMapped = 1
rule_place MostMapped = 2
rule_place FewestUsed = 3
rule_place MostUsed = 4
rule_place EntryZeros = 5
rule_place VirtualBlocks = 6
rule_place NotBlockZero = 7
rule_place BlocksInside = 8
rule_place NoLogBlock = 1
rule_place NotShared = 2
rule_place EndZeros = 1

-- a fault in numbers
abbrev pub told : Held → Fault
told f =
    record { number = rule_number f.rule; rule = rule_place f.rule; block = f.block; word = f.word; value = f.value; detail = f.detail }

-- none has the number 0
abbrev pub fault_told : Option Held → Fault
fault_told None = record { number = 0; rule = 0; block = 0; word = 0; value = 0; detail = 0 }
fault_told (Some f) = told f

-- a use in a number: 0 superblock, 1 log, 2 live, 3 free
abbrev pub use_number : Use → ℕ
use_number Superblock = 0
use_number Log = 1
use_number Live = 2
use_number Free = 3

abbrev pub use_numbers : List Use → List ℕ
use_numbers [] = []
use_numbers (u ∷ us) = use_number u ∷ use_numbers us

-- an answer in numbers, by its parts
abbrev pub seen : Option Held → Found → List ℕ → List ℕ → List ℕ → List ℕ → List Use → Inspected
seen fault found chain entries overruled table uses = record {
  fault = fault_told fault;
  found = found;
  chain = chain;
  entries = entries;
  overruled = overruled;
  table = table;
  uses = use_numbers uses;
}
