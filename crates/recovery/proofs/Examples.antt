-- The claims at small histories that are computed: each says in numbers what a claim says there, so that a claim with another meaning is refused
-- by its value (the bound of the lone write: OtherSizes, `Tight`). `order-seen`: the old entry stands before the new one.
-- `read-seen`, `count-seen`: the buffer and the count of a read that meets the file's end. `faults`, `stranger`: what counts as a fault, and that a point
-- which is not joined meets one. `zeroing-held`, `left-free`: the map against the holdings while a log block is being zeroed, and after its point has left.
-- `twice-held`: a block in two hands is seen.
use Prim.Native.Nat.{ℕ}
use mathlib.Core.Path.{◌≡◌, refl, ◌∙◌}
use mathlib.Core.Bool.{true, false}
use mathlib.Core.List.{List, [], ◌∷◌, ◌++◌}
use lib.ListN.{replicate}
use Rattle.words.specs.Edition.{one}
use Rattle.words.specs.Logic.{all_of, list_from, one_if, member}
use Rattle.words.specs.Memory.{memory}
use Rattle.words.specs.BlockMap.{taken}
use Rattle.block_log.specs.Refusals.{Done}
use Rattle.block_log.specs.Chain.{log}
use Rattle.block_log.specs.Entry.{entry_of}
use Rattle.points.specs.Record.{no_point}
use Rattle.points.specs.Reading.{reading, buffer_after}
use Rattle.recovery.specs.Computing.{computing}
use Rattle.recovery.specs.World.{World, Call, join, begin, step, leave, serve, world}
use Rattle.recovery.specs.Holdings.{holdings, distinct}
use Rattle.recovery.specs.History.{History, enough, open_world, alone, at_cut, refusal, is_fault}
use Rattle.recovery.specs.Claim.{LogOrder, Answered}
use Rattle.recovery.specs.Sessions.{eight}
use Rattle.recovery.specs.MoreSessions.{full}
use Rattle.recovery.proofs.Computed.{same, same-sound}

-- ---- the log's order

-- a log with one entry; a point commits another
abbrev seen : History one
unfolding computing
seen = record {
  words = eight 1 2 (entry_of one 0 2 1 512 0);
  scratch = enough;
  opens = refl;
  calls = join 1 ∷ begin 1 no_point 512 (7 ∷ []) ∷ alone 1 65;
  bytes = refl;
  cut = 67;
}

-- an equation, with its right side computed
valued : {a b : List ℕ} → a ≡ b → (c : List ℕ) → same b c ≡ true → a ≡ c
valued {b = b} e c t = e ∙ same-sound b c t

order-seen : LogOrder one → log (memory one (at_cut seen).words) ≡ entry_of one 0 2 1 512 0 ∷ entry_of one 1 3 1 1 1 ∷ []
unfolding LogOrder computing
order-seen claim = valued (claim seen) (entry_of one 0 2 1 512 0 ∷ entry_of one 1 3 1 1 1 ∷ []) refl

-- ---- what is read, and by whom

-- three bytes of the file from byte 510 on, of which the last is the committed one; the others of the buffer stay
read-seen : Answered one
    → buffer_after one (at_cut seen).words (at_cut seen).shared ((at_cut seen).newest 1).head ((at_cut seen).newest 1).table 510 (replicate 5 9)
    ≡ 0 ∷ 0 ∷ 7 ∷ 9 ∷ 9 ∷ []
unfolding Answered computing
read-seen claim = valued (((claim seen).1 1 refl).fills 510 (replicate 5 9)) (0 ∷ 0 ∷ 7 ∷ 9 ∷ 9 ∷ []) refl

count-seen : Answered one
    → reading one (at_cut seen).words (at_cut seen).shared ((at_cut seen).newest 1).head ((at_cut seen).newest 1).table 510 5
    ≡ record { reply = Done; count = 3 }
unfolding Answered computing
count-seen claim = ((claim seen).1 1 refl).counts 510 5

faults : all_of is_fault (10 ∷ 11 ∷ 14 ∷ 18 ∷ []) ≡ true
faults = refl

-- point 2 steps with point 1's record under its own number, and leaves so
stranger : (refusal (serve one (at_cut seen) (step 2 ((at_cut seen).newest 1))).event ≡ 14)
    × (refusal (serve one (at_cut seen) (leave 2 ((at_cut seen).newest 1))).event ≡ 14)
unfolding computing
stranger = (refl, refl)

-- ---- what is held

-- 64 words filled, Extending, 5 words zeroed: point 1 holds block 3, its run, and block 4
abbrev zeroing_calls : List Call
zeroing_calls = join 1 ∷ begin 1 no_point 0 (replicate 512 7) ∷ alone 1 70

-- and then leaves
abbrev left_calls : List Call
left_calls = zeroing_calls ++ (leave 1 no_point ∷ [])

-- a full log block, six blocks after it, and these calls
abbrev zeroed : List Call → World
zeroed cs = world one (open_world one (full 6) enough) cs

abbrev mapped : World → List ℕ
mapped w = list_from 0 8 (λ b. one_if (taken w.shared.taken b))

abbrev held : World → List ℕ
held w = list_from 0 8 (λ b. one_if (member b (holdings one w)))

zeroing-held : same (mapped (zeroed zeroing_calls)) (held (zeroed zeroing_calls)) ≡ true
unfolding computing
zeroing-held = refl

left-free : same (mapped (zeroed left_calls)) (held (zeroed left_calls)) ≡ true
unfolding computing
left-free = refl

twice-held : distinct (2 ∷ 3 ∷ 2 ∷ []) ≡ false
twice-held = refl
