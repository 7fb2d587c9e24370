-- The cases of rows hold of the definitions: the rounds are computed on the blocks, and how many are unfinished after each is counted once.
use Prim.Native.Nat.{ℕ, zero, suc, ◌*◌, ◌≤◌}
use native.Mathlib.Omega.{arith}
use mathlib.Core.Path.{◌≡◌, refl, sym, ap, ◌∙◌}
use mathlib.Core.Bool.{Bool, true, ◌&&◌}
use mathlib.Core.List.{List, [], ◌∷◌, ◌++◌, map}
use lib.ListN.{length, get_or, replicate}
use borrow.Author.Tests.{eqb-true}
use Rattle.words.specs.Edition.{Edition, one}
use Rattle.words.specs.Memory.{block_count}
use Rattle.words.proofs.Logic.{and_left, and_right}
use Rattle.recovery.specs.World.{World, world, events}
use Rattle.recovery.specs.Row.{Turn, begin_of, step_of, unfinished, after_rounds, begun_world, begun_turns}
use Rattle.recovery.specs.Computing.{computing}
use Rattle.recovery.specs.TurnSessions.{all_joined, like_turns, unfinished_after, TurnSessions}
use Rattle.recovery.proofs.Computed.{same, same-sound}
use Rattle.recovery.proofs.OnBlocks.{Whole, whole, CutWorld, cut_world, CutRun, ran, cut_run, cut-run-is, nothing_known, world-whole, on_blocks}

-- ---- how many are unfinished, before the rounds and after each

counts : Edition → ℕ → World → List Turn → List ℕ
counts E zero w ts = length ts ∷ []
counts E (suc k) w ts = let cs = map step_of ts in length ts ∷ counts E k (world E w cs) (unfinished ts (events E w cs))

count_at : (E : Edition) (k r : ℕ) (w : World) (ts : List Turn) → r ≤ k → length (after_rounds E r w ts) ≡ get_or (counts E k w ts) r 0
unfolding counts after_rounds
count_at E zero zero w ts l = refl
count_at E zero (suc r) w ts l = absurd (omega arith)
count_at E (suc k) zero w ts l = refl
count_at E (suc k) (suc r) w ts l = count_at E k r _ _ (omega arith)

-- ---- the same on the blocks

unfoldable cut_counts : Edition → ℕ → CutWorld → List Turn → List ℕ
cut_counts E zero v ts = length ts ∷ []
cut_counts E (suc k) v ts = elim (cut_run E v 0 (map step_of ts)) [ ran es u ↦ length ts ∷ cut_counts E k u (unfinished ts es) ]

cut-counts : (E : Edition) (k : ℕ) (w : World) (ts : List Turn) → Whole E w.words → cut_counts E k (cut_world E w) ts ≡ counts E k w ts
unfolding cut_counts counts
cut-counts E zero w ts e = refl
cut-counts E (suc k) w ts e =
    let cs = map step_of ts in
    ap (λ (r : CutRun). elim r [ ran es u ↦ length ts ∷ cut_counts E k u (unfinished ts es) ]) (cut-run-is E w 0 cs e (nothing_known w))
    ∙ ap (λ (l : List ℕ). length ts ∷ l) (cut-counts E k (world E w cs) (unfinished ts (events E w cs)) (world-whole E w cs e))

-- from the beginnings on
abbrev begun_counts : Edition → ℕ → List Turn → CutRun → List ℕ
begun_counts E k ts (ran es u) = cut_counts E k u (unfinished ts es)

abbrev row_test : Edition → ℕ → World → List Turn → List ℕ → Bool
row_test E k w ts said = whole E w.words && same (begun_counts E k ts (cut_run E (cut_world E w) 0 (map begin_of ts))) said

row_counts : (E : Edition) (k : ℕ) (w : World) (ts : List Turn) (said : List ℕ) → row_test E k w ts said ≡ true
    → counts E k (begun_world E w ts) (begun_turns E w ts) ≡ said
row_counts E k w ts said t =
    let cs = map begin_of ts in
    let run = cut_run E (cut_world E w) 0 cs in
    let e : Whole E w.words =
    eqb-true (length w.words) (block_count E w.words * E.block_words) (and_left (whole E w.words) (same (begun_counts E k ts run) said) t) in
    sym (cut-counts E k (begun_world E w ts) (begun_turns E w ts) (world-whole E w cs e))
    ∙ sym (ap (begun_counts E k ts) (cut-run-is E w 0 cs e (nothing_known w)))
    ∙ same-sound (begun_counts E k ts run) said (and_right (whole E w.words) (same (begun_counts E k ts run) said) t)

-- ---- the cases

abbrev two_said : List ℕ
two_said = replicate 193 2 ++ replicate 195 1 ++ (0 ∷ [])

two-points : row_test one 388 (all_joined 2) (like_turns 2) two_said ≡ true
unfolding computing on_blocks cut_counts
two-points = refl

abbrev three_said : List ℕ
three_said = replicate 193 3 ++ replicate 129 2 ++ replicate 195 1 ++ (0 ∷ [])

three-points : row_test one 517 (all_joined 3) (like_turns 3) three_said ≡ true
unfolding computing on_blocks cut_counts
three-points = refl

-- after r rounds, by the counts
at-round : (n k r : ℕ) (said : List ℕ) → row_test one k (all_joined n) (like_turns n) said ≡ true → r ≤ k → unfinished_after n r ≡ get_or said r 0
at-round n k r said t l =
    let w = begun_world one (all_joined n) (like_turns n) in
    let live = begun_turns one (all_joined n) (like_turns n) in
    count_at one k r w live l ∙ ap (λ (xs : List ℕ). get_or xs r 0) (row_counts one k (all_joined n) (like_turns n) said t)

of_two : (r : ℕ) → r ≤ 388 → unfinished_after 2 r ≡ get_or two_said r 0
of_two r l = at-round 2 388 r two_said two-points l

of_three : (r : ℕ) → r ≤ 517 → unfinished_after 3 r ≡ get_or three_said r 0
of_three r l = at-round 3 517 r three_said three-points l

two_cases : unfinished_after 2 0 ∷ unfinished_after 2 192 ∷ unfinished_after 2 193 ∷ unfinished_after 2 387 ∷ unfinished_after 2 388 ∷ []
    ≡ 2 ∷ 2 ∷ 1 ∷ 1 ∷ 0 ∷ []
two_cases = rw (of_two 0 (omega arith), of_two 192 (omega arith), of_two 193 (omega arith), of_two 387 (omega arith), of_two 388 (omega arith))

three-cases : unfinished_after 3 0 ∷ unfinished_after 3 192 ∷ unfinished_after 3 193 ∷ unfinished_after 3 321 ∷ unfinished_after 3 322 ∷ unfinished_after 3 516
    ∷ unfinished_after 3 517 ∷ [] ≡ 3 ∷ 3 ∷ 2 ∷ 2 ∷ 1 ∷ 1 ∷ 0 ∷ []
three-cases = rw (
  of_three 0 (omega arith),
  of_three 192 (omega arith),
  of_three 193 (omega arith),
  of_three 321 (omega arith),
  of_three 322 (omega arith),
  of_three 516 (omega arith),
  of_three 517 (omega arith),
)

pub turn-sessions : TurnSessions
unfolding TurnSessions
turn-sessions = (refl, (two_cases, (three-cases, tt)))
