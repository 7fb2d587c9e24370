use mathlib.Core.Path.{◌≡◌, refl, sym, ap, ◌∙◌}
use Prim.Native.Nat.{ℕ}
use native.Mathlib.Omega.{arith}
use lib.ListN.{length}
use Rattle.words.specs.Logic.{list_from}
use Rattle.c_lent.specs.Numbers.{shared_as}
use Rattle.c_lent.specs.Serving.{common_lent, turn_left, listed_at, begin_turn_for}
use Rattle.c_lent.proofs.InTurn.{reached-start, reached-end}
use Rattle.c_lent.proofs.BeginReady.{begin-good-next}
use Rattle.c_lent.proofs.Turns.{lengths-set, starts-up, start-next, text-part, begin-next}
use Rattle.c_lent.proofs.turn.begin_all.Goals as goal

pub loop-i-init : goal.loop-i-init
loop-i-init c = let a = c.args in (
  omega arith,
  refl,
  refl,
  (refl, c.requires.0, c.requires.1, c.requires.2),
  reached-start begin_turn_for _ (length a.heads.now) _ (listed_at a.heads.now a.tables.now a.texts.now a.answers.now),
  λ j l g. absurd (omega arith),
)

pub overflow_add-end : goal.overflow_add-end
overflow_add-end c = let l = c.loop-i in
    let up = starts-up c.args.writes.now l.i (length c.args.heads.now) (omega arith) in
    omega (arith, c.requires.4)

pub slice_bounds-begin_turn-start : goal.slice_bounds-begin_turn-start
slice_bounds-begin_turn-start c = let l = c.loop-i in
    let up = starts-up c.args.writes.now l.i (length c.args.heads.now) (omega arith) in
    omega (arith, c.requires.4)

pub slice_bounds-begin_turn-end : goal.slice_bounds-begin_turn-end
slice_bounds-begin_turn-end c = let l = c.loop-i in
    let up = starts-up c.args.writes.now l.i (length c.args.heads.now) (omega arith) in
    omega (arith, c.requires.4)

pub loop-i-preserved : goal.loop-i-preserved
loop-i-preserved c = let l = c.loop-i in (
  omega arith,
  start-next c.args.writes.now l.i l.start l.invariant.1,
  l.invariant.2,
  lengths-set _ l.heads l.tables l.texts l.answers _ _ _ _ l.i l.invariant.3,
  begin-next _ _ _ l.heads l.tables l.texts l.answers c.args.writes.now c.args.bytes.now _ _ _ _ _ l.i _ _ l.invariant.3 (omega arith)
      refl (text-part c.args.writes.now c.args.bytes.now l.i l.start l.invariant.1) l.invariant.4 c.begin_turn.ensures,
  begin-good-next _ _ l.heads l.tables l.texts l.answers _ _ _ _ _ l.i _ l.invariant.3 (omega arith) l.invariant.5 c.begin_turn.ensures,
)

pub shape_of-heads : goal.shape_of-heads
shape_of-heads c = c.loop-i.invariant.3.0

pub shape_of-tables : goal.shape_of-tables
shape_of-tables c = c.loop-i.invariant.3.1 ∙ sym c.requires.0

pub shape_of-texts : goal.shape_of-texts
shape_of-texts c = c.loop-i.invariant.3.2 ∙ sym c.requires.1

pub shape_of-answers : goal.shape_of-answers
shape_of-answers c = c.loop-i.invariant.3.3 ∙ sym c.requires.2

pub returns : goal.returns
returns c = let l = c.loop-i in
    let start = c.args in
    let over : l.i ≡ length start.heads.now = omega (arith, l.invariant.0, l.invariant.2) in (
      ap (λ (n : ℕ). turn_left (common_lent start.image.now (shared_as l.shared l.taken)) (list_from 0 n (listed_at l.heads l.tables l.texts l.answers)))
          l.invariant.3.0
          ∙ sym (reached-end begin_turn_for _ _ l.i _ _ (listed_at l.heads l.tables l.texts l.answers) (omega arith) l.invariant.0 l.invariant.4),
      λ j k g. l.invariant.5 j (omega (arith, over, k)) g,
    )
