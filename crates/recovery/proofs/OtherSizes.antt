-- The cases at other block sizes hold of the definitions. Sessions and lone writes are computed on the blocks, refusals and the values of the bound as they
-- stand; that one step less does not finish a write follows from the answers. Assumes nothing.
use Prim.Native.Nat.{ℕ, suc, ◌-◌, ◌<◌}
use native.Mathlib.Omega.{arith}
use mathlib.Core.Path.{◌≡◌, refl, sym, subst}
use mathlib.Core.Bool.{true, false}
use mathlib.Core.List.{List, ◌++◌, map}
use lib.ListN.{length, take, drop}
use Rattle.words.specs.Edition.{Edition, one, two}
use Rattle.words.specs.Logic.{some_of}
use Rattle.points.specs.declared.StepAnswer.TheVariants.{Stored, Moved, Extending, Committed, Refused, Copied, Bytes}
use Rattle.recovery.specs.Computing.{computing}
use Rattle.recovery.specs.World.{Event, joined, begun, begun_read, stepped, left, world, events}
use Rattle.recovery.specs.History.{alone, finishes}
use Rattle.recovery.specs.Claim.{lone_steps}
use Rattle.recovery.specs.Sessions.{code}
use Rattle.recovery.specs.OtherSizes.{OtherSizes, wide128, wide256, laid_world, session_calls, session_cases, reopened_cases, size_cases, bound_cases}
use Rattle.recovery.specs.OtherSizes.{nearly_full, lone_start, lone_calls, lone_said, lone_cases, Tight}
use Rattle.recovery.proofs.Computed.{test, agree}
use Rattle.recovery.proofs.OnBlocks.{test_on, by_blocks, on_blocks}
use Rattle.recovery.proofs.NoSooner.{low, no-sooner}

-- ---- the sessions

session-two : test_on two (laid_world two 8) (session_calls two) (session_cases two 512) ≡ true
unfolding computing on_blocks
session-two = refl

session-between : test_on wide128 (laid_world wide128 8) (session_calls wide128) (reopened_cases wide128 128) ≡ true
unfolding computing on_blocks
session-between = refl

-- ---- refusals, and the bound's values

sizes : test size_cases ≡ true
unfolding computing
sizes = refl

bounds : test bound_cases ≡ true
unfolding computing
bounds = refl

-- ---- the bound of the lone write

-- an event whose number is below that of Committed finishes no write
unfinished : (e : Event) → code e < 400000 → finishes e ≡ false
unfinished (joined n r) h = refl
unfinished (begun n offset text r) h = refl
unfinished (begun_read n offset size r) h = refl
unfinished (left n r) h = refl
unfinished (stepped n d Stored b) h = refl
unfinished (stepped n d Moved b) h = refl
unfinished (stepped n d Extending b) h = refl
unfinished (stepped n d (Committed k) b) h = absurd (omega arith)
unfinished (stepped n d (Refused k) b) h = absurd (omega arith)
unfinished (stepped n d Copied b) h = refl
unfinished (stepped n d (Bytes k) b) h = refl

-- the answers that the bound says finish the write at their end, and not before
module _ (E : Edition) (n : ℕ) (e : lone_steps E ≡ suc n) (l : low 400000 (take n (drop (length (lone_start E)) (lone_said E))) ≡ true)
    (t : test_on E (nearly_full E) (lone_calls E) (lone_cases E) ≡ true) where
  tight : Tight E
  tight =
      let q = by_blocks E (nearly_full E) (lone_calls E) (lone_cases E) t in
      let r : map code (events E (nearly_full E) (lone_start E ++ alone 1 (suc n))) ≡ lone_said E =
      subst (λ (k : ℕ). map code (events E (nearly_full E) (lone_start E ++ alone 1 k)) ≡ lone_said E) e q.0 in
      let m : n ≡ lone_steps E - 1 = omega (arith, e) in (
        q,
        subst (λ (k : ℕ). some_of finishes (events E (world E (nearly_full E) (lone_start E)) (alone 1 k)) ≡ false) m
            (no-sooner finishes 400000 unfinished E 1 (lone_start E) n (nearly_full E) (subst (λ (xs : List ℕ). low 400000 (take n (drop (length
            (lone_start E)) xs)) ≡ true) (sym r) l)),
      )

lone-one : test_on one (nearly_full one) (lone_calls one) (lone_cases one) ≡ true
unfolding computing on_blocks
lone-one = refl

lone-128 : test_on wide128 (nearly_full wide128) (lone_calls wide128) (lone_cases wide128) ≡ true
unfolding computing on_blocks
lone-128 = refl

lone-256 : test_on wide256 (nearly_full wide256) (lone_calls wide256) (lone_cases wide256) ≡ true
unfolding computing on_blocks
lone-256 = refl

lone-two : test_on two (nearly_full two) (lone_calls two) (lone_cases two) ≡ true
unfolding computing on_blocks
lone-two = refl

-- ---- all of them

pub other-sizes : OtherSizes
unfolding OtherSizes
other-sizes = (
  by_blocks two (laid_world two 8) (session_calls two) (session_cases two 512) session-two,
  by_blocks wide128 (laid_world wide128 8) (session_calls wide128) (reopened_cases wide128 128) session-between,
  agree size_cases sizes,
  agree bound_cases bounds,
  tight one 387 refl refl lone-one,
  tight wide128 643 refl refl lone-128,
  tight wide256 1283 refl refl lone-256,
  tight two 2563 refl refl lone-two,
)
