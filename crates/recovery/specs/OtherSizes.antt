-- Cases at other block sizes (document 02, K11): edition two, and sizes between with edition two's entries. Nobody needs them to believe the
-- claims, which hold for every edition; they say in numbers what the definitions give where a block is not 64 words. And the bound of the
-- lone write, at all four sizes.
use Rattle.std.specs.Prelude.{ℕ, ◌+◌, ◌*◌, ◌-◌, ◌/◌, ◌≡◌, false, List, [], ◌∷◌, ◌++◌, map, replicate}
use Rattle.words.specs.Edition.{Edition, edition, words128, words256, one, two, block_bytes}
use Rattle.words.specs.Logic.{list_from, some_of}
use Rattle.words.specs.Memory.{memory, put, word_at}
use Rattle.words.specs.BlockMap.{free_count}
use Rattle.block_log.specs.Entry.{entry_of, entry_v, entry_b, entry_n, entry_u, entry_point, entry_rest}
use Rattle.block_log.specs.Chain.{log}
use Rattle.block_log.specs.Opening.{number_of, layout_refusal, layout, open_refusal, file_of, nobody_joined, opened, opened_file}
use Rattle.points.specs.declared.Head.{Head}
use Rattle.points.specs.Record.{head_of, no_point, no_write, no_table, run_most, unfit}
use Rattle.points.specs.Search.{with_joined, search}
use Rattle.recovery.specs.World.{World, Call, join, begin, Event, world, events}
use Rattle.recovery.specs.History.{enough, open_world, alone, finishes}
use Rattle.recovery.specs.Claim.{lone_steps}
use Rattle.recovery.specs.Sessions.{Case, ◌is◌, Agree, after_calls, code, codes_at, done, stored, moved, extending, committed}

-- the two sizes between, of 1,024 and 2,048 bytes. No paper gives them a mark: these are the cases' own
abbrev pub wide128 : Edition
wide128 = edition words128 0x128

abbrev pub wide256 : Edition
wide256 = edition words256 0x256

-- so many blocks, laid out
abbrev pub laid : Edition → ℕ → List ℕ
laid E blocks = layout E (replicate (blocks * E.block_words) 0)

abbrev pub laid_world : Edition → ℕ → World
laid_world E blocks = open_world E (laid E blocks) enough

-- ---- a session: two points, one after the other into one block

-- 20 bytes, 1 to 20: ten before the end of virtual block 0, ten after it
abbrev pub first_text : List ℕ
first_text = list_from 1 20 (λ k. k)

-- 12 bytes, 101 to 112, from byte 12 of virtual block 1 on: half of its word 1 and all of its word 2
abbrev pub second_text : List ℕ
second_text = list_from 101 12 (λ k. k)

-- both begin, then point 1 goes to its commit, then point 2: each 2 W + 1 steps, W being the words of a block. The runs are blocks 2 and 3, and block 4
abbrev pub session_calls : Edition → List Call
session_calls E =
    join 1 ∷ join 2 ∷ begin 1 no_point (block_bytes E - 10) first_text ∷ begin 2 no_point (block_bytes E + 12) second_text
    ∷ alone 1 (2 * E.block_words + 1) ++ alone 2 (2 * E.block_words + 1)

-- joining and beginning; point 1 fills two blocks and commits; point 2 fills one, meets that commit, fills all words but word 2 again, and commits
abbrev pub session_said : ℕ → List ℕ
session_said W =
    replicate 4 done ++ replicate (2 * W) stored ++ (committed 0 ∷ [])
    ++ replicate W stored ++ (moved ∷ []) ++ replicate (W - 1) stored ++ (committed 1 ∷ [])

abbrev pub fields : Edition → ℕ → List ℕ
fields E e = entry_v e ∷ entry_b e ∷ entry_n e ∷ entry_u E e ∷ entry_point E e ∷ entry_rest E e ∷ []

-- what is said of the events and of the world that is left, W words to a block
abbrev pub session_cases : Edition → ℕ → List Event → World → List Case
session_cases E W es w =
    (map code es is session_said W)
    -- Point 1's entry: v 0, b 2, n 2, u 10, point 1. From the left: 1 in bits 53 to 57 is 0x0020.., 10 in bits 40 to 52 0x0A,
    -- 2 in bits 32 to 39 0x02, then b 0x0002 and v 0x0000
    -- Point 2's: v 1, b 4, n 1, u 12 + 12 = 24, point 2: 0x0040.., 0x18, 0x01, 0x0004, 0x0001
    ∷ (log (memory E w.words) is 0x00200A0200020000 ∷ 0x0040180100040001 ∷ [])
    ∷ (fields E 0x00200A0200020000 ++ fields E 0x0040180100040001 is 0 ∷ 2 ∷ 2 ∷ 10 ∷ 1 ∷ 0 ∷ 1 ∷ 4 ∷ 1 ∷ 24 ∷ 2 ∷ 0 ∷ [])
    -- both texts, with bytes 10 and 11 of virtual block 1 between them
    ∷ (opened_file E w.words is replicate (8 * W - 10) 0 ++ first_text ++ (0 ∷ 0 ∷ []) ++ second_text)
    -- the length; block 3 is free again in the map, and the next to be taken; two free blocks are 5 and 6
    ∷ ((file_of E (memory E w.words)).size ∷ free_count w.shared.taken 8 ∷ search w.shared 1 ∷ search w.shared 2 ∷ []
    is (8 * W + 24) ∷ 4 ∷ 3 ∷ 5 ∷ [])
    -- block 4: bytes 11 to 18 of point 1's text, copied; its 19 and 20, two zeros, 101 to 104; 105 to 112, point 2's alone
    ∷ (word_at (memory E w.words) 4 0 ∷ word_at (memory E w.words) 4 1 ∷ word_at (memory E w.words) 4 2 ∷ word_at (memory E w.words) 4 3 ∷ []
    is 0x1211100F0E0D0C0B ∷ 0x6867666500001413 ∷ 0x706F6E6D6C6B6A69 ∷ 0 ∷ [])
    ∷ []

-- and what opening answers then: the length, two entries, as many free blocks as the map has
abbrev pub reopened_cases : Edition → ℕ → List Event → World → List Case
reopened_cases E W es w =
    (let o = opened E w.words enough in (number_of o.reply ∷ o.length ∷ o.entries ∷ o.free ∷ [] is 0 ∷ (8 * W + 24) ∷ 2 ∷ 4 ∷ []))
    ∷ session_cases E W es w

-- (4,096 bytes of a block are many to the checker: what opening answers after the session is asked at the smaller size alone)
abbrev pub session_two : List Case
session_two = after_calls two (laid_world two 8) (session_calls two) (session_cases two 512)

abbrev pub session_between : List Case
session_between = after_calls wide128 (laid_world wide128 8) (session_calls wide128) (reopened_cases wide128 128)

-- ---- refusals follow the edition

-- 4 blocks with this entry
abbrev pub holding : Edition → ℕ → List ℕ
holding E e = put E (laid E 4) (record { block = 1; word = 2; value = e })

-- opening it; with one block mapped, of which u bytes are used
abbrev pub open_holding : Edition → ℕ → ℕ
open_holding E e = open_refusal E (holding E e) enough

abbrev pub used : Edition → ℕ → ℕ
used E u = open_holding E (entry_of E 0 2 1 u 0)

-- a head of point 0 with this length and slot; and the reason that leaving gives it, on 4 blocks of edition two, at another edition and block count too
abbrev pub head_with : ℕ → ℕ → Head
head_with length slot = head_of 0 length (record { block = 1; slot = slot }) no_write

abbrev pub leave_reason : Edition → ℕ → ℕ → ℕ → ℕ
leave_reason E blocks length slot = unfit E (laid two 4) (with_joined (nobody_joined blocks (3 ∷ replicate 15 0) 1) 1) (head_with length slot) no_table

-- a point joins on 4 blocks and begins a write of two bytes at this offset, then one of a single byte
abbrev pub two_or_one : Edition → ℕ → List ℕ
two_or_one E offset = codes_at E (laid_world E 4) (join 0 ∷ begin 0 no_point offset (9 ∷ 9 ∷ []) ∷ begin 0 no_point offset (9 ∷ []) ∷ [])

abbrev pub size_cases : List Case
size_cases =
    -- 7: used bytes run to 4,096 in edition two, and to the block's bytes between
    (used two 4096 ∷ used two 4097 ∷ used two 0 ∷ [] is 0 ∷ 7 ∷ 7 ∷ [])
    ∷ (used wide128 1024 ∷ used wide128 1025 ∷ used wide256 2048 ∷ used wide256 2049 ∷ [] is 0 ∷ 7 ∷ 0 ∷ 7 ∷ [])
    -- 7: bit 58 is not the point's; bit 57 is
    ∷ (open_holding two (entry_of two 0 2 1 1 31) ∷ open_holding two (entry_of two 0 2 1 1 32) ∷ [] is 0 ∷ 7 ∷ [])
    -- 3: 2,048 words are 32 blocks of edition one and 4 of edition two; each opens at its own edition, and has a wrong mark at the other
    ∷ (open_refusal one (laid one 32) enough ∷ open_refusal two (laid one 32) enough ∷ [] is 0 ∷ 3 ∷ [])
    ∷ (open_refusal two (laid two 4) enough ∷ open_refusal one (laid two 4) enough ∷ [] is 0 ∷ 3 ∷ [])
    -- 1: 2,112 words are 33 blocks of edition one and no multiple of 512; 1,536 are 3 blocks
    ∷ (open_refusal two (laid one 33) enough ∷ layout_refusal two (replicate 2112 0) ∷ open_refusal two (replicate 1536 0) enough
    ∷ layout_refusal two (replicate 1536 0) ∷ layout_refusal one (replicate 2112 0) ∷ [] is 1 ∷ 1 ∷ 1 ∷ 1 ∷ 0 ∷ [])
    -- 17: a write that ends at byte 1,048,576 is taken up, one past it not; between, 262,144 and 524,288
    ∷ (two_or_one two 1048575 is done ∷ 17 ∷ done ∷ [])
    ∷ (two_or_one wide128 262143 is done ∷ 17 ∷ done ∷ [])
    ∷ (two_or_one wide256 524287 is done ∷ 17 ∷ done ∷ [])
    -- 10: 2,048 words are 4 blocks and not 32, at edition one 32 and not 4
    ∷ (leave_reason two 4 0 2 ∷ leave_reason two 32 0 2 ∷ leave_reason one 32 0 2 ∷ leave_reason one 4 0 2 ∷ [] is 0 ∷ 10 ∷ 0 ∷ 10 ∷ [])
    -- 11: slot 512 and length 1,048,576 fit at edition two; at edition one slot 64 and length 131,072
    ∷ (leave_reason two 4 0 512 ∷ leave_reason two 4 0 513 ∷ leave_reason two 4 1048576 2 ∷ leave_reason two 4 1048577 2 ∷ []
    is 0 ∷ 11 ∷ 0 ∷ 11 ∷ [])
    ∷ (leave_reason one 32 0 64 ∷ leave_reason one 32 0 65 ∷ leave_reason one 32 131072 2 ∷ leave_reason one 32 131073 2 ∷ []
    is 0 ∷ 11 ∷ 0 ∷ 11 ∷ [])
    ∷ []

-- ---- the bound of the lone write is tight

-- a log block one entry from full, and 8 blocks after it
abbrev pub nearly_full : Edition → World
nearly_full E =
    open_world E (E.mark ∷ 1 ∷ replicate (E.block_words - 2) 0
    ++ (0 ∷ 0 ∷ replicate (E.block_words - 3) (entry_of E 10 2 1 (block_bytes E) 0) ++ (0 ∷ []))
    ++ replicate (E.block_words * 8) 0) enough

-- A text from the last byte of virtual block 0 to the first byte of virtual block 2 in edition one, 514 bytes, and of virtual block 1 in larger sizes,
-- 2 bytes: each word of its first and its last block has a byte that is not the text's
abbrev pub edge_text : Edition → ℕ → List ℕ
edge_text E x = replicate (1022 / block_bytes E * block_bytes E + 2) x

-- two points begin such a write; point 2 commits, which fills the log block. Then point 1 is alone
abbrev pub lone_start : Edition → List Call
lone_start E =
    join 1 ∷ join 2 ∷ begin 1 no_point (block_bytes E - 1) (edge_text E 7) ∷ begin 2 no_point (block_bytes E - 1) (edge_text E 8)
    ∷ alone 2 (run_most E + 1)

abbrev pub lone_calls : Edition → List Call
lone_calls E = lone_start E ++ alone 1 (lone_steps E)

-- alone: all words of the run, Moved, those of two blocks again, Extending, the words of a block zeroed, the link, the commit
abbrev pub lone_said : Edition → List ℕ
lone_said E =
    let W = E.block_words in
    replicate 4 done ++ replicate (run_most E) stored ++ (committed 0 ∷ []) ++ replicate (run_most E) stored ++ (moved ∷ [])
    ++ replicate (2 * W) stored ++ (extending ∷ []) ++ replicate (W + 1) stored ++ (committed 1 ∷ [])

abbrev pub lone_cases : Edition → List Event → World → List Case
lone_cases E es w = (map code es is lone_said E) ∷ []

-- with one step less the write is not finished
abbrev pub NoSooner : Edition → Type 0
NoSooner E = some_of finishes (events E (world E (nearly_full E) (lone_start E)) (alone 1 (lone_steps E - 1))) ≡ false

abbrev pub Tight : Edition → Type 0
Tight E = Agree (after_calls E (nearly_full E) (lone_calls E) (lone_cases E)) × NoSooner E

abbrev pub bound_cases : List Case
bound_cases = (lone_steps one ∷ lone_steps wide128 ∷ lone_steps wide256 ∷ lone_steps two ∷ [] is 388 ∷ 644 ∷ 1284 ∷ 2564 ∷ []) ∷ []

unfoldable pub OtherSizes : Type 0
OtherSizes = Agree session_two × Agree session_between × Agree size_cases × Agree bound_cases × Tight one × Tight wide128 × Tight wide256 × Tight two
