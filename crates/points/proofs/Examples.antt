-- Small cases of the definitions, computed, at the borders where a definition that is off by one would differ.
-- When a record fits, and a shared record; what the search finds; an entry's used bytes; the retry count; what leaving frees; what is filled again; whose
-- turn it is in a row.
use Prim.Native.Nat.{ℕ, ◌+◌}
use mathlib.Core.Path.{◌≡◌, refl}
use mathlib.Core.List.{List, [], ◌∷◌, ◌++◌, map}
use lib.ListN.{replicate, take}
use Rattle.words.specs.Edition.{one}
use Rattle.words.specs.Logic.{one_if}
use Rattle.block_log.specs.declared.Shared.{Shared}
use Rattle.block_log.specs.declared.Place.{Place}
use Rattle.block_log.specs.Entry.{entry_of}
use Rattle.block_log.specs.Opening.{no_reports}
use Rattle.points.specs.Computing.{computing}
use Rattle.points.specs.declared.Phase.{Phase}
use Rattle.points.specs.declared.Phase.TheVariants.{Idle, Filling, RefillFirst, RefillLast, RefillBoth, Zeroing}
use Rattle.points.specs.declared.Write.{Write}
use Rattle.points.specs.declared.Head.{Head}
use Rattle.points.specs.Record.{no_table, phase_number, bad_shared, fits}
use Rattle.points.specs.Search.{search}
use Rattle.points.specs.Plan.{without_held}
use Rattle.points.specs.Stepping.{retried, refill_after, entry_for}
use Rattle.points.specs.Serving.{Turned, in_turn, rounds, row}

-- ---- when a record fits, in an image of 8 blocks

abbrev place : ℕ → ℕ → Place
place block slot = record { block = block; slot = slot }

abbrev write : ℕ → ℕ → ℕ → Phase → ℕ → ℕ → Write
write offset size run phase position zeroing =
    record { offset = offset; size = size; run = run; phase = phase; position = position; zeroing = zeroing; retries = 0 }

abbrev head : ℕ → Place → Write → Head
head length p w = record { number = 1; length = length; place = p; write = w }

abbrev fit : Head → ℕ
fit h = one_if (fits one 8 h no_table)

-- a write of 600 bytes at 500: blocks 0 to 2 of the file, 192 words
abbrev three : Phase → ℕ → ℕ → Write
three phase position zeroing = write 500 600 4 phase position zeroing

abbrev at_slot : ℕ → Write → Head
at_slot slot w = head 0 (place 1 slot) w

-- filling and filling again: the position is at most the run's words, the block being zeroed is not looked at
phases-fit : map (λ ph. fit (at_slot 2 (three ph 192 99))) (Filling ∷ RefillFirst ∷ RefillLast ∷ RefillBoth ∷ []) ≡ 1 ∷ 1 ∷ 1 ∷ 1 ∷ []
unfolding computing
phases-fit = refl

phases-past : map (λ ph. fit (at_slot 2 (three ph 193 99))) (Filling ∷ RefillFirst ∷ RefillLast ∷ RefillBoth ∷ []) ≡ 0 ∷ 0 ∷ 0 ∷ 0 ∷ []
unfolding computing
phases-past = refl

-- zeroing: position 64, slot 64, a block from 1 to 7
zeroing-fits : map fit (at_slot 64 (three Zeroing 64 7) ∷ at_slot 64 (three Zeroing 65 7) ∷ at_slot 63 (three Zeroing 64 7)
    ∷ at_slot 64 (three Zeroing 64 8) ∷ at_slot 64 (three Zeroing 64 0) ∷ [])
    ≡ 1 ∷ 0 ∷ 0 ∷ 0 ∷ 0 ∷ []
unfolding computing
zeroing-fits = refl

-- idle: the write fields are not looked at, place and length are
idle-fits : map fit (head 131072 (place 7 64) (write 0 0 99 Idle 999 99) ∷ head 131073 (place 7 64) (three Idle 0 0)
    ∷ head 0 (place 8 2) (three Idle 0 0) ∷ head 0 (place 0 2) (three Idle 0 0)
    ∷ head 0 (place 1 65) (three Idle 0 0) ∷ head 0 (place 1 1) (three Idle 0 0) ∷ []) ≡ 1 ∷ 0 ∷ 0 ∷ 0 ∷ 0 ∷ 0 ∷ []
unfolding computing
idle-fits = refl

-- the run from 1 on and inside, with its last block; the text has 1 to 1,024 bytes and ends by 131,072
write-fits : map (λ w. fit (at_slot 2 w))
    (write 500 600 5 Filling 0 0 ∷ write 500 600 6 Filling 0 0 ∷ write 500 600 0 Filling 0 0 ∷ write 0 1024 6 Filling 0 0
    ∷ write 0 1025 5 Filling 0 0 ∷ write 0 0 5 Filling 0 0 ∷ write 131071 1 7 Filling 0 0 ∷ write 131071 2 5 Filling 0 0 ∷ [])
    ≡ 1 ∷ 0 ∷ 0 ∷ 1 ∷ 0 ∷ 0 ∷ 1 ∷ 0 ∷ []
unfolding computing
write-fits = refl

-- each table entry inside the image
table_fits : map (λ b. one_if (fits one 8 (head 0 (place 1 2) (three Idle 0 0)) (replicate 255 0 ++ (b ∷ [])))) (7 ∷ 8 ∷ []) ≡ 1 ∷ 0 ∷ []
unfolding computing
table_fits = refl

-- ---- when a shared record fits, in the same image: the chain's length, and each of 32 reported blocks, whoever is joined

abbrev told : ℕ → List ℕ → ℕ
told chain reports =
    one_if (bad_shared one (replicate 512 0) (record { blocks = 8; taken = replicate 16 0; joined = 0; chain = chain; reports = reports }))

chain_fits : map (λ n. told n no_reports) (0 ∷ 1 ∷ 64 ∷ 65 ∷ []) ≡ 1 ∷ 0 ∷ 0 ∷ 1 ∷ []
unfolding computing
chain_fits = refl

reports-fit : map (λ b. told 1 (b ∷ replicate 31 0)) (7 ∷ 8 ∷ []) ++ map (λ b. told 1 (replicate 31 7 ++ (b ∷ []))) (7 ∷ 8 ∷ []) ≡ 0 ∷ 1 ∷ 0 ∷ 1 ∷ []
unfolding computing
reports-fit = refl

-- ---- the search

-- 8 blocks; the map's word has a bit for each taken block
abbrev shared : ℕ → Shared
shared bits = record { blocks = 8; taken = bits ∷ replicate 15 0; joined = 0; chain = 1; reports = no_reports }

-- blocks 0 and 1 taken: the first blocks of the one stretch, 2 to 7; seven are not there. Block 0 is in no stretch, taken or not
search-first : map (search (shared 3)) (1 ∷ 2 ∷ 3 ∷ 6 ∷ 7 ∷ []) ++ map (search (shared 0)) (1 ∷ 7 ∷ 8 ∷ []) ++ (search (shared 2) 1 ∷ [])
    ≡ 2 ∷ 2 ∷ 2 ∷ 2 ∷ 0 ∷ 1 ∷ 1 ∷ 0 ∷ 2 ∷ []
unfolding computing
search-first = refl

-- block 4 taken too: a run over it is none; with all but 7 taken only one block is found, with all taken none
search-taken : map (search (shared 0x13)) (1 ∷ 2 ∷ 3 ∷ 4 ∷ []) ++ map (search (shared 0x7F)) (1 ∷ 2 ∷ []) ++ (search (shared 0xFF) 1 ∷ [])
    ≡ 2 ∷ 2 ∷ 5 ∷ 0 ∷ 7 ∷ 0 ∷ 0 ∷ []
unfolding computing
search-taken = refl

-- ---- the entry of a write

-- used bytes: from the last block's start to the end, 1 to 512
used-bytes : map (λ w. entry_for one (head 0 (place 1 2) w))
    (write 510 4 2 Filling 0 0 ∷ write 0 512 2 Filling 0 0 ∷ write 512 1 3 Filling 0 0 ∷ write 511 514 3 Filling 0 0 ∷ [])
    ≡ entry_of one 0 2 2 2 1 ∷ entry_of one 0 2 1 512 1 ∷ entry_of one 1 3 1 1 1 ∷ entry_of one 0 3 3 1 1 ∷ []
unfolding computing
used-bytes = refl

-- ---- the retry count

abbrev tried : ℕ → Write
tried n = record { offset = 0; size = 1; run = 2; phase = Filling; position = 64; zeroing = 0; retries = n }

retries-capped : map (λ n. retried (tried n)) (0 ∷ 65534 ∷ 65535 ∷ []) ≡ 1 ∷ 65535 ∷ 65535 ∷ []
retries-capped = refl

-- ---- what leaving frees: of the blocks 0 to 7, all taken

abbrev left : Write → List ℕ
left w = take 1 (without_held one (0xFF ∷ replicate 15 0) w)

leaving-frees : left (three Idle 0 7) ++ left (three Filling 9 7) ++ left (three RefillLast 9 7) ++ left (three Zeroing 9 7)
    ≡ 0xFF ∷ 0x8F ∷ 0x8F ∷ 0x0F ∷ []
unfolding computing
leaving-frees = refl

-- ---- what is filled again after Moved

-- the phase, for a write of so many bytes at this offset and a new entry for n blocks from v on
abbrev again : ℕ → ℕ → ℕ → ℕ → ℕ
again offset size v n = phase_number (refill_after one (entry_of one v 5 n 1 0 ∷ []) (write offset size 2 Filling 64 0)).phase

-- one block is a first block, never a last; a full one has no copied byte, and none is filled again where the entry lies beside it
one_again : again 0 1 0 1 ∷ again 511 1 0 1 ∷ again 0 512 0 1 ∷ again 512 1 0 1 ∷ again 0 1 1 1 ∷ [] ≡ 2 ∷ 2 ∷ 1 ∷ 1 ∷ 1 ∷ []
unfolding computing
one_again = refl

-- two blocks: both edges, each alone by the entry, each alone by the text, neither
two-again : again 511 2 0 2 ∷ again 511 2 0 1 ∷ again 511 2 1 1 ∷ again 511 513 0 2 ∷ again 0 513 0 2 ∷ again 0 1024 0 2 ∷ []
    ≡ 4 ∷ 2 ∷ 3 ∷ 2 ∷ 3 ∷ 1 ∷ []
unfolding computing
two-again = refl

-- three blocks: the middle one holds text alone
three-again : again 511 514 0 3 ∷ again 511 514 0 2 ∷ again 511 514 1 1 ∷ again 511 514 1 2 ∷ again 511 514 3 1 ∷ []
    ≡ 4 ∷ 2 ∷ 1 ∷ 3 ∷ 1 ∷ []
unfolding computing
three-again = refl

-- ---- whose turn it is in a row

-- a turn that writes down a number, and leaves its own
abbrev writes_down : ℕ → List ℕ → ℕ → Turned (List ℕ) ℕ
writes_down n s x = record { common = s ++ ((n + x) ∷ []); own = x }

-- all begin, in list order, before anybody has a step; then two rounds, in list order too
order-of-turns : row (writes_down 10) (writes_down 0) 2 [] (1 ∷ 2 ∷ 3 ∷ [])
    ≡ record { common = 11 ∷ 12 ∷ 13 ∷ 1 ∷ 2 ∷ 3 ∷ 1 ∷ 2 ∷ 3 ∷ []; own = 1 ∷ 2 ∷ 3 ∷ [] }
unfolding row rounds in_turn
order-of-turns = refl
