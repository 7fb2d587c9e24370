-- Laying out and opening (document 01, "The opened file", "Why a call is turned down").
use Rattle.std.specs.Prelude.{Result, Ok, Err}
use Rattle.std.specs.Prelude.{ℕ, zero, suc, ◌*◌, ◌-◌, ◌≡◌, Bool, true, false, ◌||◌, not, List, [], ◌∷◌, ◌++◌, length, drop, replicate, ltb, eqb}
use Rattle.words.specs.Edition.{Edition, one, blocks_max}
use Rattle.words.specs.Logic.{is_zero, some_of, any, member, list_from, first, Reason, ◌when◌}
use Rattle.words.specs.Memory.{Memory, memory, block_count, wrong_size}
use Rattle.words.specs.BlockMap.{map_of, free_count}
use Rattle.block_log.specs.declared.Shared.{Shared}
use Rattle.block_log.specs.declared.Opened.{Opened}
use Rattle.block_log.specs.declared.Refusal.{Refusal}
use Rattle.block_log.specs.Refusals.{Reply, Done, Refused, number}
use Rattle.block_log.specs.Entry.{legal}
use Rattle.block_log.specs.Chain.{chain, log, bad_superblock, bad_index, endless, bad_log}
use Rattle.block_log.specs.Replay.{Mapped, replay, file_bytes, live, shares_block, dirty_end}

-- the reply with this reason's number, 0 for none; and the number of a reply, or of another result
abbrev pub reply_of : ℕ → Reply
reply_of zero = Done
reply_of (suc n) = Refused (suc n)

abbrev pub number_of : {T : Type 0} → Result T Refusal → ℕ
number_of (Ok x) = 0
number_of (Err e) = number e

-- ---- laying out

-- "the superblock, with first log block 1, and zeroes block 1; other blocks are not touched"
unfoldable pub laid_out : Edition → List ℕ → List ℕ
laid_out E words = E.mark ∷ 1 ∷ replicate (E.block_words - 2) 0 ++ replicate E.block_words 0 ++ drop (2 * E.block_words) words

unfoldable pub layout_refusal : Edition → List ℕ → ℕ
layout_refusal E words = first (1 when wrong_size E words ∷ [])

unfoldable pub layout : Edition → List ℕ → List ℕ
layout E words = elim (layout_refusal E words) [ zero ↦ laid_out E words | suc n ↦ words ]

-- ---- opening

-- 2. "the scratch is shorter than 1,024 numbers"
abbrev pub short_scratch : List ℕ → Bool
short_scratch scratch = ltb (length scratch) blocks_max

-- 7. "an entry breaks the entry's rules"
unfoldable pub bad_entry : Edition → ℕ → List ℕ → Bool
bad_entry E blocks entries = some_of (λ w. not (legal E blocks w)) entries

-- what the image holds
unfoldable pub file_of : Edition → Memory → Mapped
file_of E m = replay E (log m)

-- the reasons 3 to 9, on the image's blocks
unfoldable pub content_reasons : Edition → ℕ → Memory → List Reason
content_reasons E blocks m =
    3 when bad_superblock E m
    ∷ 4 when bad_index blocks m
    ∷ 5 when endless m
    ∷ 6 when bad_log m
    ∷ 7 when bad_entry E blocks (log m)
    ∷ 8 when shares_block (file_of E m).table (chain m)
    ∷ 9 when dirty_end E m (file_of E m)
    ∷ []

unfoldable pub open_refusal : Edition → List ℕ → List ℕ → ℕ
open_refusal E words scratch =
    first (1 when wrong_size E words ∷ 2 when short_scratch scratch ∷ content_reasons E (block_count E words) (memory E words))

-- "Taken are block 0, the log chain, the live blocks"
unfoldable pub taken_at_opening : List ℕ → List ℕ → ℕ → Bool
taken_at_opening table log_blocks b = any (is_zero b ∷ member b log_blocks ∷ live table b ∷ [])

-- of each of the 32 points the log block that it reports, "0 when not joined" (document 02, K4)
unfoldable pub no_reports : List ℕ
no_reports = replicate 32 0

-- "block count; a map of taken blocks, ..; the joined points"; "and the length of the chain" (document 02, K4). Document 01 goes on with a next place,
-- which document 02, K2 takes away
abbrev pub nobody_joined : ℕ → List ℕ → ℕ → Shared
nobody_joined blocks map chain = record { blocks = blocks; taken = map; joined = 0; chain = chain; reports = no_reports }

-- the shared record of an image that opens
unfoldable pub shared_at_opening : Edition → ℕ → Memory → Shared
shared_at_opening E blocks m = nobody_joined blocks (map_of (taken_at_opening (file_of E m).table (chain m))) (length (chain m))

-- "A refused opening .. answers a record and counts of zeros"
abbrev pub no_shared : Shared
no_shared = nobody_joined 0 (replicate 16 0) 0

-- a refused opening, with its reason
abbrev pub refused_with : ℕ → Opened
refused_with n = record { reply = Refused n; length = 0; entries = 0; free = 0; shared = no_shared }

unfoldable pub opened_with : Edition → ℕ → Memory → Opened
opened_with E blocks m =
    let s = shared_at_opening E blocks m in
    record { reply = Done; length = (file_of E m).size; entries = length (log m); free = free_count s.taken blocks; shared = s }

-- "Opening answers the file's length, its counts of log entries and free blocks, and a shared record"
unfoldable pub opened : Edition → List ℕ → List ℕ → Opened
opened E words scratch =
    elim (open_refusal E words scratch) [ zero ↦ opened_with E (block_count E words) (memory E words) | suc n ↦ refused_with (suc n) ]

-- ---- the scratch

-- the place of b in the table, counted from 1; 0 where it is not there
unfoldable pub place_in : ℕ → List ℕ → ℕ → ℕ
place_in b [] at = 0
place_in b (x ∷ xs) at = elim (eqb b x) [ true ↦ at | false ↦ place_in b xs (suc at) ]

-- "65,535 for block 0 and log blocks, one more than the virtual block for a live block, else 0"
unfoldable pub scratch_mark : List ℕ → List ℕ → ℕ → ℕ
scratch_mark table log_blocks b = elim (is_zero b || member b log_blocks) [ true ↦ 65535 | false ↦ place_in b table 1 ]

-- the first 1,024 places with these marks, and with zeros
abbrev pub marked : List ℕ → List ℕ → List ℕ → List ℕ
marked table log_blocks scratch = list_from 0 blocks_max (scratch_mark table log_blocks) ++ drop blocks_max scratch

abbrev pub cleared : List ℕ → List ℕ
cleared scratch = replicate blocks_max 0 ++ drop blocks_max scratch

-- marks, zeros "after 8 and 9", and else untouched
unfoldable pub scratch_after : Edition → List ℕ → List ℕ → List ℕ
scratch_after E words scratch =
    let m = memory E words in
    elim (open_refusal E words scratch) [
      | zero ↦ marked (file_of E m).table (chain m) scratch
      | suc n ↦ elim (ltb (suc n) 8) [ true ↦ scratch | false ↦ cleared scratch ]
    ]

-- opening's answer, and the scratch after it
abbrev pub Opens : List ℕ → List ℕ → List ℕ → Opened → Type 0
Opens words scratch after r = (r ≡ opened one words scratch) × (after ≡ scratch_after one words scratch)

-- the file that opening shows
unfoldable pub opened_file : Edition → List ℕ → List ℕ
opened_file E words = let m = memory E words in file_bytes E m (file_of E m)
