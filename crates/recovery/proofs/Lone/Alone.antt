-- A point that alone takes steps: where a number falls with each of its steps, until one ends what is under way, and every other call keeps it, so many steps
-- are enough. Said once, for a write and for a read.
use mathlib.Core.Path.{◌≡◌, sym, ap, ◌∙◌, subst}
use mathlib.Core.List.{List, [], ◌∷◌}
use mathlib.Core.Bool.{Bool, true, false, ◌||◌, not}
use Prim.Native.Nat.{ℕ, suc, ◌≤◌, ◌<◌}
use native.Mathlib.Omega.{arith}
use lib.Dec.{eqb}
use borrow.Author.Tests.{eqb-true, eqb-false, not-true}
use Rattle.words.specs.Edition.{Edition}
use Rattle.words.specs.Logic.{some_of, all_of}
use Rattle.words.specs.Memory.{after}
use Rattle.words.specs.Word.{bit}
use Rattle.points.specs.declared.Phase as P
use Rattle.points.specs.declared.Point as PP
use Rattle.points.specs.declared.StepAnswer.{StepAnswer}
use Rattle.points.specs.Record.{is_joined, is_idle}
use Rattle.points.specs.Plan.{Outcome}
use Rattle.points.specs.Stepping.{stepping}
use Rattle.recovery.specs.World as W
use Rattle.recovery.specs.World.{Call, join, begin, begin_read, step, leave, handed, serve, events}
use Rattle.recovery.specs.Book.{Book, recorded_step}
use Rattle.recovery.specs.History.{bytes_in, is_step, steps_alone, step_count}
use Rattle.words.proofs.Tests.{or-1, or-2}
use Rattle.words.proofs.Logic.{and_left, and_right}
use Rattle.recovery.proofs.Calls.Mapping.{Tied, handed-newest, with_newest-same}
use Rattle.recovery.proofs.Calls.Join.{join_tied}
use Rattle.recovery.proofs.Calls.Begin.{begin-tied}
use Rattle.recovery.proofs.Calls.Read.{begin-read-tied}
use Rattle.recovery.proofs.Calls.Step.{step-tied}
use Rattle.recovery.proofs.Calls.Leave.{leave-tied}
use Rattle.recovery.proofs.Lone.Bystander.{Kept, join_kept, begin-kept, begin-read-kept, leave-kept}
use Rattle.recovery.proofs.Demand3.{small-text}

-- what is under way, which steps end it, and the number
module _ (E : Edition) (under : P.Phase → Bool) (ends : StepAnswer → Bool) (rank : List ℕ → PP.Point → ℕ) where
  -- after a step it has ended, or goes on with a lower number
  pub data Good (w : W.World) (n : ℕ) (r : Outcome) : Type 0 where
    finished : ends r.step ≡ true → Good w n r
    lower : r.shared.joined ≡ w.shared.joined → under r.point.head.write.phase ≡ true
        → rank (after E w.words r.store) r.point < rank w.words (w.newest n) → Good w n r

  module _ (is-busy : (ph : P.Phase) → under ph ≡ true → is_idle ph ≡ false) (rank-some : (I : List ℕ) (p : PP.Point) → 1 ≤ rank I p)
      (good : (L : List ℕ) (w : W.World) (bk : Book) → Tied E L w bk → (n : ℕ) → is_joined w.shared n ≡ true
      → under (w.newest n).head.write.phase ≡ true
      → Good w n (stepping E w.words w.shared (w.newest n))) (n : ℕ) where
    -- what is claimed of a world and the calls that follow
    abbrev Ends : W.World → List Call → Type 0
    Ends w cs =
        (L : List ℕ) (bk : Book) → Tied E L w bk → is_joined w.shared n ≡ true → under (w.newest n).head.write.phase ≡ true
        → rank w.words (w.newest n) ≤ step_count cs → some_of (is_step ends) (events E w cs) ≡ true

    -- the calls after one that the point is a bystander of
    kept-ends : {w v : W.World} (L : List ℕ) (bk : Book) (cs : List Call) → Kept w v n → Tied E L v bk
        → under (w.newest n).head.write.phase ≡ true → rank w.words (w.newest n) ≤ step_count cs → Ends v cs
        → some_of (is_step ends) (events E v cs) ≡ true
    kept-ends L bk cs k t b l goes = goes L bk t k.joined (rw k.newest b) (rw (k.words, k.newest) l)

    module _ {L : List ℕ} (w : W.World) (bk : Book) (h : Tied E L w bk) (j : is_joined w.shared n ≡ true)
        (b : under (w.newest n).head.write.phase ≡ true) where
      step-ends : (q : PP.Point) (cs : List Call) → rank w.words (w.newest n) ≤ suc (step_count cs) → Ends (serve E w (step n q)).world cs
          → some_of (is_step ends) (events E w (step n q ∷ cs)) ≡ true
      unfolding events serve
      step-ends q cs l goes = pick (subst (Good w n) (sym same) (good L w bk h n j b))
        where
          out : Outcome
          out = stepping E w.words w.shared (handed w n q)

          same : out ≡ stepping E w.words w.shared (w.newest n)
          same = ap (stepping E w.words w.shared) (handed-newest w n q j)

          rest : Bool
          rest = some_of (is_step ends) (events E (serve E w (step n q)).world cs)

          pick : Good w n out → ends out.step || rest ≡ true
          pick (finished f) = or-1 (ends out.step) rest f
          pick (lower jo bu lt) =
              or-2 (ends out.step) rest
              (goes _ (recorded_step bk n out.step) (step-tied w bk h n q) (ap (λ (y : ℕ). bit y n) jo ∙ j) (rw (with_newest-same w n out.point) bu)
              (rw (with_newest-same w n out.point) (omega arith)))

    pub lone : (cs : List Call) → all_of bytes_in cs ≡ true → all_of (steps_alone n) cs ≡ true → (w : W.World) → Ends w cs
    unfolding events serve
    lone [] y a w L bk h j b l = let x = rank-some w.words (w.newest n) in absurd (omega arith)
    lone (join k ∷ cs) y a w L bk h j b l =
        kept-ends L bk cs (join_kept w bk h n j (is-busy (w.newest n).head.write.phase b) k) (join_tied w bk h k) b l
        (lone cs y a (serve E w (join k)).world)
    lone (begin k p o text ∷ cs) y a w L bk h j b l =
        let small = small-text text (and_left (bytes_in (begin k p o text)) (all_of bytes_in cs) y) in
        kept-ends L _ cs (begin-kept w bk h n j (is-busy (w.newest n).head.write.phase b) k p o text small) (begin-tied w bk h k p o text small) b l
        (lone cs (and_right (bytes_in (begin k p o text)) (all_of bytes_in cs) y) a (serve E w (begin k p o text)).world)
    lone (begin_read k p o size ∷ cs) y a w L bk h j b l =
        kept-ends L bk cs (begin-read-kept w bk h n j (is-busy (w.newest n).head.write.phase b) k p o size) (begin-read-tied w bk h k p o size) b l
        (lone cs y a (serve E w (begin_read k p o size)).world)
    lone (leave k p ∷ cs) y a w L bk h j b l =
        kept-ends L _ cs (leave-kept w bk h n j (is-busy (w.newest n).head.write.phase b) k p
        (eqb-false k n (not-true (eqb k n) (and_left (not (eqb k n)) (all_of (steps_alone n) cs) a))))
        (leave-tied w bk h k p) b l
        (lone cs y (and_right (not (eqb k n)) (all_of (steps_alone n) cs) a) (serve E w (leave k p)).world)
    lone (step k q ∷ cs) y a w L bk h j b l =
        let e : k ≡ n = eqb-true k n (and_left (eqb k n) (all_of (steps_alone n) cs) a) in
        rw e (step-ends w bk h j b q cs l (lone cs y (and_right (eqb k n) (all_of (steps_alone n) cs) a) (serve E w (step n q)).world))
