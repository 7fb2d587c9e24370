-- What inspecting an image answers.
use Rattle.std.specs.Prelude.{ℕ, ◌*◌, ◌-◌, ◌≡◌, ◌≢◌, true, false, List, ◌++◌, length, drop, replicate}
use Rattle.words.specs.Edition.{Edition, one, file_blocks, chain_max, blocks_max}
use Rattle.words.specs.Logic.{list_from}
use Rattle.words.specs.Memory.{Memory, memory, block_count, wrong_size}
use Rattle.words.specs.BlockMap.{free_count}
use Rattle.block_log.specs.Chain.{chain, log}
use Rattle.block_log.specs.Opening.{open_refusal, scratch_after}
use Rattle.inspection.specs.declared.Found.{Found}
use Rattle.inspection.specs.Told.{Fault, Inspected}
use Rattle.inspection.specs.Reading.{read_chain, read_log, read_file, read_taken, overruled_all, use_of, longest_free}
use Rattle.inspection.specs.Faults.{first_fault}
use Rattle.inspection.specs.Breaks.{breaks}

-- a list with zeros behind it, n numbers in all
abbrev pub padded : ℕ → List ℕ → List ℕ
padded n xs = xs ++ drop (length xs) (replicate n 0)

-- the entries of 64 log blocks
abbrev pub log_max : ℕ
log_max = chain_max * (one.block_words - 2)

-- what was read, in numbers: log blocks, entries, the file's length, free blocks, the longest free stretch
unfoldable pub found : Edition → ℕ → Memory → Found
found E blocks m =
    let map = read_taken E blocks m in
    record {
      chained = length (read_chain blocks m);
      entries = length (read_log E blocks m);
      length = (read_file E blocks m).size;
      free = free_count map blocks;
      longest = longest_free map blocks;
    }

-- a fault, and what can be read
unfoldable pub inspected_with : Edition → ℕ → Memory → Fault → Inspected
inspected_with E blocks m f =
    let cs = read_chain blocks m in
    let es = read_log E blocks m in
    let table = (read_file E blocks m).table in
    record {
      fault = f;
      found = found E blocks m;
      chain = padded chain_max cs;
      entries = padded log_max es;
      overruled = padded log_max (overruled_all es);
      table = table;
      uses = list_from 0 blocks_max (use_of table cs);
    }

-- of an image of a wrong size nothing is read
unfoldable pub unread : Fault → Inspected
unread f =
    record {
      fault = f;
      found = record { chained = 0; entries = 0; length = 0; free = 0; longest = 0 };
      chain = replicate chain_max 0;
      entries = replicate log_max 0;
      overruled = replicate log_max 0;
      table = replicate file_blocks 0;
      uses = replicate blocks_max 0;
    }

-- inspecting: the first fault, and what can be read
unfoldable pub inspected : Edition → List ℕ → List ℕ → Inspected
inspected E words scratch =
    let f = first_fault E words scratch in
    elim (wrong_size E words) [ true ↦ unread f | false ↦ inspected_with E (block_count E words) (memory E words) f ]

-- what is read of an image that opens is its chain and its log
abbrev pub Agrees : List ℕ → List ℕ → Type 0
Agrees words scratch =
    open_refusal one words scratch ≡ 0
    → (read_chain (block_count one words) (memory one words) ≡ chain (memory one words))
    × (read_log one (block_count one words) (memory one words) ≡ log (memory one words))

-- Inspecting's answer and the scratch after it: the number is opening's, and so is the scratch; the place named breaks the rule named; and what is
-- read of an image that opens is its log
pub record Inspects (words before after : List ℕ) (r : Inspected) : Type 0 where
  pub answer : r ≡ inspected one words before
  pub number : r.fault.number ≡ open_refusal one words before
  pub place : r.fault.number ≢ 0 → breaks one words before r.fault ≡ true
  pub opens : Agrees words before
  pub scratch : after ≡ scratch_after one words before
