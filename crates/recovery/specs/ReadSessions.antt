-- Cases of reads taken in steps (document 02, K1), which nobody needs to believe the claims: an example in full, what makes a copy begin again and what
-- does not, refusals, a point that leaves, and that the bound of the lone read is met.
use Rattle.std.specs.Prelude.{ℕ, ◌+◌, ◌*◌, ◌-◌, ◌%◌, ◌≡◌, false, List, [], ◌∷◌, ◌++◌, map, replicate}
use Rattle.words.specs.Edition.{one}
use Rattle.words.specs.Logic.{some_of, list_from}
use Rattle.words.specs.BlockMap.{free_count}
use Rattle.block_log.specs.Refusals.{refusal}
use Rattle.points.specs.declared.StepAnswer.TheVariants.{Refused as Stopped, Copied, Bytes}
use Rattle.points.specs.Record.{no_point}
use Rattle.recovery.specs.World.{World, Call, join, begin, begin_read, step, leave, Event, joined, begun, begun_read, stepped, left, world, events}
use Rattle.recovery.specs.History.{alone, answers_read}
use Rattle.recovery.specs.Claim.{lone_read_steps}
use Rattle.recovery.specs.Sessions.{Case, ◌is◌, Agree, after_calls, step_code, code, done, stored, moved, committed, eight_world}

-- the numbers of a read's steps
abbrev pub copied : ℕ
copied = step_code Copied

abbrev pub answered : ℕ → ℕ
answered n = step_code (Bytes n)

-- the bytes that came back with these events
abbrev pub bytes_of : Event → List ℕ
bytes_of (joined n r) = []
bytes_of (begun n offset text r) = []
bytes_of (begun_read n offset size r) = []
bytes_of (stepped n h a bytes) = bytes
bytes_of (left n r) = []

abbrev pub all_bytes : List Event → List ℕ
all_bytes [] = []
all_bytes (e ∷ es) = bytes_of e ++ all_bytes es

-- ---- points 0 and 1 join 8 blocks; point 0 writes a text that lies in one block, to its commit; what they are answered

abbrev pub both_join : List Call
both_join = join 0 ∷ join 1 ∷ []

abbrev pub writes : ℕ → List ℕ → List Call
writes offset text = begin 0 no_point offset text ∷ alone 0 65

abbrev pub wrote : List ℕ
wrote = done ∷ replicate 64 stored ++ (committed 0 ∷ [])

-- ---- an example in full: a read of 100 bytes that another's commit meets

abbrev pub example_byte : ℕ → ℕ
example_byte i = (1 + 7 * i) % 256

abbrev pub example_calls : List Call
example_calls =
    both_join ++ writes 0 (list_from 0 512 example_byte) ++ (begin_read 1 no_point 500 100 ∷ alone 1 5) ++ writes 510 (7 ∷ []) ++ alone 1 23

-- after the file's end zeros
abbrev pub example_cases : List Event → World → List Case
example_cases es w =
    (map code es
    is done ∷ done ∷ wrote ++ (done ∷ replicate 5 copied) ++ wrote ++ replicate 8 copied ++ (moved ∷ []) ++ replicate 13 copied ++ (answered 100 ∷ []))
    ∷ (all_bytes es is list_from 500 10 example_byte ++ (7 ∷ example_byte 511 ∷ []) ++ replicate 88 0)
    ∷ []

-- ---- what makes the copy begin again: point 0 writes 10 bytes, point 1 begins a read and copies its words, point 0 writes a byte, and point 1 goes on

abbrev pub meet_calls : ℕ → ℕ → ℕ → ℕ → ℕ → List Call
meet_calls first offset size words at =
    both_join ++ writes first (replicate 10 5) ++ (begin_read 1 no_point offset size ∷ alone 1 words) ++ writes at (9 ∷ []) ++ alone 1 1

-- how the last step ends
abbrev pub meet_cases : ℕ → ℕ → List Event → World → List Case
meet_cases words end es w = (map code es is done ∷ done ∷ wrote ++ (done ∷ replicate words copied) ++ wrote ++ (end ∷ [])) ∷ []

-- ---- refusals, and leaving: no block is held

abbrev pub refused_calls : List Call
refused_calls =
    join 1 ∷ begin_read 1 no_point 0 0 ∷ begin_read 1 no_point 131072 1025 ∷ begin_read 1 no_point 131072 1 ∷ begin_read 1 no_point 131071 1
    ∷ begin_read 1 no_point 0 0 ∷ begin 1 no_point 0 [] ∷ leave 1 no_point ∷ step 1 no_point ∷ []

abbrev pub refused_cases : List Event → World → List Case
refused_cases es w =
    (map code es is done ∷ 16 ∷ 16 ∷ 17 ∷ done ∷ 15 ∷ 15 ∷ done ∷ step_code (Stopped (refusal 11)) ∷ []) ∷ (free_count w.shared.taken 8 ∷ [] is 6 ∷ []) ∷ []

-- ---- the bound of the lone read is met

-- a read of 1,024 bytes that touches 129 words; another commits over its first block. Then point 1 is alone
abbrev pub lone_read_start : List Call
lone_read_start = both_join ++ (begin_read 1 no_point 1 1024 ∷ []) ++ writes 0 (list_from 1 8 (λ i. i))

abbrev pub lone_read_calls : List Call
lone_read_calls = lone_read_start ++ alone 1 lone_read_steps

abbrev pub lone_read_said : List ℕ
lone_read_said = replicate 3 done ++ wrote ++ replicate 129 copied ++ (moved ∷ []) ++ replicate 129 copied ++ (answered 1024 ∷ [])

abbrev pub lone_read_cases : List Event → World → List Case
lone_read_cases es w = (map code es is lone_read_said) ∷ (all_bytes es is list_from 2 7 (λ i. i) ++ replicate 1017 0) ∷ []

-- so many steps end it, and one less does not
abbrev pub TightRead : Type 0
TightRead =
    Agree (after_calls one eight_world lone_read_calls lone_read_cases)
    × (some_of answers_read (events one (world one eight_world lone_read_start) (alone 1 (lone_read_steps - 1))) ≡ false)

unfoldable pub ReadSessions : Type 0
ReadSessions =
    Agree (after_calls one eight_world example_calls example_cases)
    -- a file of 1,500 bytes: covered in the middle block of three; in none
    × Agree (after_calls one eight_world (meet_calls 1490 500 600 76 700) (meet_cases 76 moved))
    × Agree (after_calls one eight_world (meet_calls 1490 0 10 2 700) (meet_cases 2 (answered 10)))
    -- a file of 10 bytes: lengthened where the range passed its end; where it went just up to it
    × Agree (after_calls one eight_world (meet_calls 0 5 20 4 1700) (meet_cases 4 moved))
    × Agree (after_calls one eight_world (meet_calls 0 5 5 2 1700) (meet_cases 2 (answered 5)))
    × Agree (after_calls one eight_world refused_calls refused_cases)
    × TightRead
