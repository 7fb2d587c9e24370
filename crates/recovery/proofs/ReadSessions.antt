-- The cases of reads in steps hold of the definitions: computed on the blocks. That one step less does not end the read follows from the answers.
use Prim.Native.Nat.{ℕ, ◌<◌}
use native.Mathlib.Omega.{arith}
use mathlib.Core.Path.{◌≡◌, refl, sym, subst}
use mathlib.Core.Bool.{true, false}
use mathlib.Core.List.{List}
use lib.ListN.{length, take, drop}
use Rattle.words.specs.Edition.{one}
use Rattle.points.specs.declared.StepAnswer.TheVariants.{Stored, Moved, Extending, Committed, Refused, Copied, Bytes}
use Rattle.recovery.specs.Computing.{computing}
use Rattle.recovery.specs.World.{Event, joined, begun, begun_read, stepped, left}
use Rattle.recovery.specs.History.{answers_read}
use Rattle.recovery.specs.Sessions.{code, eight_world}
use Rattle.recovery.specs.ReadSessions.{example_calls, example_cases, meet_calls, meet_cases, refused_calls, refused_cases, answered}
use Rattle.recovery.specs.ReadSessions.{lone_read_start, lone_read_calls, lone_read_cases, TightRead, ReadSessions}
use Rattle.recovery.specs.Sessions.{moved}
use Rattle.recovery.proofs.OnBlocks.{test_on, by_blocks, on_blocks}
use Rattle.recovery.proofs.NoSooner.{low, no-sooner}

example : test_on one eight_world example_calls example_cases ≡ true
unfolding computing on_blocks
example = refl

middle-covered : test_on one eight_world (meet_calls 1490 500 600 76 700) (meet_cases 76 moved) ≡ true
unfolding computing on_blocks
middle-covered = refl

not_covered : test_on one eight_world (meet_calls 1490 0 10 2 700) (meet_cases 2 (answered 10)) ≡ true
unfolding computing on_blocks
not_covered = refl

lengthened : test_on one eight_world (meet_calls 0 5 20 4 1700) (meet_cases 4 moved) ≡ true
unfolding computing on_blocks
lengthened = refl

inside : test_on one eight_world (meet_calls 0 5 5 2 1700) (meet_cases 2 (answered 5)) ≡ true
unfolding computing on_blocks
inside = refl

refusals : test_on one eight_world refused_calls refused_cases ≡ true
unfolding computing on_blocks
refusals = refl

lone : test_on one eight_world lone_read_calls lone_read_cases ≡ true
unfolding computing on_blocks
lone = refl

-- an event whose number is below that of the bytes ends no read
unended : (e : Event) → code e < 700000 → answers_read e ≡ false
unended (joined n r) h = refl
unended (begun n offset text r) h = refl
unended (begun_read n offset size r) h = refl
unended (left n r) h = refl
unended (stepped n d Stored b) h = refl
unended (stepped n d Moved b) h = refl
unended (stepped n d Extending b) h = refl
unended (stepped n d (Committed k) b) h = refl
unended (stepped n d (Refused k) b) h = refl
unended (stepped n d Copied b) h = refl
unended (stepped n d (Bytes k) b) h = absurd (omega arith)

tight : TightRead
tight =
    let q = by_blocks one eight_world lone_read_calls lone_read_cases lone in (
      q,
      no-sooner answers_read 700000 unended one 1 lone_read_start 259 eight_world
          (subst (λ (xs : List ℕ). low 700000 (take 259 (drop (length lone_read_start) xs)) ≡ true) (sym q.0) refl),
    )

pub read-sessions : ReadSessions
unfolding ReadSessions
read-sessions = (
  by_blocks one eight_world example_calls example_cases example,
  by_blocks one eight_world (meet_calls 1490 500 600 76 700) (meet_cases 76 moved) middle-covered,
  by_blocks one eight_world (meet_calls 1490 0 10 2 700) (meet_cases 2 (answered 10)) not_covered,
  by_blocks one eight_world (meet_calls 0 5 20 4 1700) (meet_cases 4 moved) lengthened,
  by_blocks one eight_world (meet_calls 0 5 5 2 1700) (meet_cases 2 (answered 5)) inside,
  by_blocks one eight_world refused_calls refused_cases refusals,
  tight,
)
