-- Cases of reports and of the chain's length (document 02, K4), which nobody needs to believe the claims: who reports what, what 20 reads and frees, where
-- records are altered too, and a chain that leads round.
use Rattle.std.specs.Prelude.{ℕ, List, [], ◌∷◌, ◌++◌, map, take, replicate}
use Rattle.words.specs.Edition.{one}
use Rattle.words.specs.Memory.{put}
use Rattle.words.specs.BlockMap.{free_count}
use Rattle.block_log.specs.declared.Shared.{Shared}
use Rattle.points.specs.Record.{no_point, phase_number}
use Rattle.points.specs.Search.{shared_of, numbers_of, with_chain}
use Rattle.points.specs.Plan.{Outcome}
use Rattle.points.specs.Stepping.{stepping}
use Rattle.points.specs.Calls.{begin_refusal, begin_read_refusal}
use Rattle.points.specs.Reading.{read_refusal}
use Rattle.recovery.specs.World.{World, Call, join, begin, begin_read, leave, Event}
use Rattle.recovery.specs.History.{alone}
use Rattle.recovery.specs.Sessions.{Case, ◌is◌, Agree, after_calls, step_code, code, done, stored, moved, extending, committed, refused}
use Rattle.recovery.specs.MoreSessions.{full_world}
use Rattle.recovery.specs.ReadSessions.{copied, answered}

-- what is reported of points 0 to 3, and the chain's length
abbrev pub told : Shared → List ℕ
told s = take 4 s.reports ++ (s.chain ∷ [])

-- 8 blocks, of which 1 is a log block and full. Points 0, 1 and 2 join; 0 and 1 begin a write of one block each, runs 3 and 4, and 2 a read of a word
abbrev pub all_begin : List Call
all_begin =
    join 0 ∷ join 1 ∷ join 2 ∷ begin 0 no_point 512 (replicate 512 8) ∷ begin_read 2 no_point 0 8 ∷ begin 1 no_point 0 (replicate 512 7) ∷ []

-- point 1 takes block 5 for the log, zeroes and links it, and commits; then point 0 goes on to its commit, and point 2 to its bytes; point 1 leaves
abbrev pub stand_calls : List Call
stand_calls = all_begin ++ alone 1 131 ++ alone 0 66 ++ alone 2 4 ++ (leave 1 no_point ∷ [])

abbrev pub stand_said : List ℕ
stand_said =
    replicate 6 done ++ replicate 64 stored ++ (extending ∷ replicate 65 stored) ++ (committed 0 ∷ replicate 64 stored) ++ (moved ∷ committed 1 ∷ [])
    ++ (copied ∷ moved ∷ copied ∷ answered 8 ∷ done ∷ [])

-- up to the n-th of these calls, so much is told
abbrev pub told_cases : ℕ → List ℕ → List Event → World → List Case
told_cases n said es w = (map code es is take n stand_said) ∷ (told w.shared is said) ∷ []

-- ---- 20 reads the chain's length: point 1 steps with another one

abbrev pub with_length : ℕ → World → Shared
with_length chain w = shared_of (with_chain (numbers_of w.shared) chain) w.shared.taken w.shared.reports

abbrev pub step_with : ℕ → World → Outcome
step_with chain w = stepping one w.words (with_length chain w) (w.newest 1)

-- the answer; the phase, the run and the block being zeroed; the free blocks; what is told
abbrev pub shown : Outcome → List ℕ
shown o =
    let x = o.point.head.write in
    step_code o.step ∷ phase_number x.phase ∷ x.run ∷ x.zeroing ∷ free_count o.shared.taken 8 ∷ told o.shared

-- with its run filled: at 63 a block is taken, at 64 the run is given up. (No image of 8 blocks has
-- so many log blocks: the record is altered.)
abbrev pub end_cases : List Event → World → List Case
end_cases es w =
    (shown (step_with 63 w) is extending ∷ 5 ∷ 4 ∷ 5 ∷ 2 ∷ 1 ∷ 1 ∷ 1 ∷ 0 ∷ 63 ∷ [])
    ∷ (shown (step_with 64 w) is refused 20 ∷ 0 ∷ 0 ∷ 0 ∷ 4 ∷ 1 ∷ 1 ∷ 1 ∷ 0 ∷ 64 ∷ [])
    ∷ []

-- with the block zeroed: at 63 it is linked, the 64th; at 64 run and block are free; where a next index is there by then, the length is not looked at
abbrev pub linked_meanwhile : World → World
linked_meanwhile w = record { words = put one w.words (record { block = 1; word = 0; value = 6 }); shared = w.shared; newest = w.newest }

abbrev pub at_link_cases : List Event → World → List Case
at_link_cases es w =
    (shown (step_with 63 w) is stored ∷ 1 ∷ 4 ∷ 0 ∷ 2 ∷ 1 ∷ 5 ∷ 1 ∷ 0 ∷ 64 ∷ [])
    ∷ (shown (step_with 64 w) is refused 20 ∷ 0 ∷ 0 ∷ 0 ∷ 4 ∷ 1 ∷ 1 ∷ 1 ∷ 0 ∷ 64 ∷ [])
    ∷ (shown (step_with 64 (linked_meanwhile w)) is moved ∷ 1 ∷ 4 ∷ 0 ∷ 3 ∷ 1 ∷ 1 ∷ 1 ∷ 0 ∷ 64 ∷ [])
    ∷ []

-- ---- 18: the log block's next index is its own: no walk goes round more than 8 times

abbrev pub round : List ℕ
round = put one (full_world 6).words (record { block = 1; word = 0; value = 1 })

abbrev pub round_cases : List Event → World → List Case
round_cases es w =
    let p = w.newest 0 in
    (begin_refusal one round w.shared p.head p.table 0 1 ∷ begin_read_refusal one round w.shared p.head p.table 0 1
    ∷ read_refusal one round w.shared p.head p.table ∷ [] is 18 ∷ 18 ∷ 18 ∷ [])
    ∷ []

unfoldable pub StandSessions : Type 0
StandSessions =
    -- all are joined and have begun; point 1 has zeroed its block; has linked it; has committed
    Agree (after_calls one (full_world 6) (take 6 stand_calls) (told_cases 6 (1 ∷ 1 ∷ 1 ∷ 0 ∷ 1 ∷ [])))
    × Agree (after_calls one (full_world 6) (take 135 stand_calls) (told_cases 135 (1 ∷ 1 ∷ 1 ∷ 0 ∷ 1 ∷ [])))
    × Agree (after_calls one (full_world 6) (take 136 stand_calls) (told_cases 136 (1 ∷ 5 ∷ 1 ∷ 0 ∷ 2 ∷ [])))
    × Agree (after_calls one (full_world 6) (take 137 stand_calls) (told_cases 137 (1 ∷ 5 ∷ 1 ∷ 0 ∷ 2 ∷ [])))
    -- point 0 is moved on; point 2's copy begins again; point 1 has left
    × Agree (after_calls one (full_world 6) (take 202 stand_calls) (told_cases 202 (5 ∷ 5 ∷ 1 ∷ 0 ∷ 2 ∷ [])))
    × Agree (after_calls one (full_world 6) (take 205 stand_calls) (told_cases 205 (5 ∷ 5 ∷ 5 ∷ 0 ∷ 2 ∷ [])))
    × Agree (after_calls one (full_world 6) stand_calls (told_cases 208 (5 ∷ 0 ∷ 5 ∷ 0 ∷ 2 ∷ [])))
    × Agree (after_calls one (full_world 6) (take 70 stand_calls) end_cases)
    × Agree (after_calls one (full_world 6) (take 135 stand_calls) at_link_cases)
    × Agree (after_calls one (full_world 6) (join 0 ∷ []) round_cases)
