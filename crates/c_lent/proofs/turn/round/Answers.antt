use mathlib.Core.Path.{refl, sym, ap, ◌∙◌}
use Prim.Native.Nat.{ℕ}
use native.Mathlib.Omega.{arith}
use lib.ListN.{length}
use Rattle.c_lent.specs.Numbers.{shared_as}
use Rattle.c_lent.specs.Serving.{common_lent, turn_left, listed_at, step_turn_for}
use Rattle.words.specs.Logic.{list_from}
use Rattle.c_lent.proofs.InTurn.{reached-start, reached-end}
use Rattle.c_lent.proofs.Turns.{lengths-set, round-next}
use Rattle.c_lent.proofs.PlainRounds.{round-good}
use Rattle.c_lent.proofs.Lean.{any-answer}
use Rattle.c_lent.proofs.turn.round.Goals as goal

pub loop-i-init : goal.loop-i-init
loop-i-init c = let a = c.args in (
  omega arith,
  refl,
  refl,
  c.requires.lengths,
  reached-start step_turn_for _ (length a.heads.now) _ (listed_at a.heads.now a.tables.now a.texts.now a.answers.now),
  c.requires.fits,
)

pub turn-requires : goal.turn-requires
turn-requires c g = let l = c.loop-i in any-answer (l.invariant.5 l.i (omega arith) g)

pub loop-i-preserved : goal.loop-i-preserved
loop-i-preserved c = let l = c.loop-i in
    let x = c.turn.new in (
      omega arith,
      c.image-1.given ∙ l.invariant.1,
      l.invariant.2,
      lengths-set _ l.heads l.tables l.texts l.answers _ _ _ _ l.i l.invariant.3,
      round-next _ _ _ l.heads l.tables l.texts l.answers _ _ _ _ _ l.i l.invariant.3 (omega arith) l.invariant.4 c.turn.ensures,
      round-good _ _ l.heads l.tables l.texts l.answers _ _ _ _ _ l.i l.invariant.3 (omega arith) l.invariant.5 c.turn.ensures,
    )

pub shape_of-image : goal.shape_of-image
shape_of-image c = c.loop-i.invariant.1

pub shape_of-heads : goal.shape_of-heads
shape_of-heads c = c.loop-i.invariant.3.0

pub shape_of-tables : goal.shape_of-tables
shape_of-tables c = c.loop-i.invariant.3.1 ∙ sym c.requires.lengths.1

pub shape_of-texts : goal.shape_of-texts
shape_of-texts c = c.loop-i.invariant.3.2 ∙ sym c.requires.lengths.2

pub shape_of-answers : goal.shape_of-answers
shape_of-answers c = c.loop-i.invariant.3.3 ∙ sym c.requires.lengths.3

pub returns : goal.returns
returns c = let l = c.loop-i in (
  ap (λ (n : ℕ). turn_left (common_lent l.image (shared_as l.shared l.taken)) (list_from 0 n (listed_at l.heads l.tables l.texts l.answers))) l.invariant.3.0
      ∙ sym (reached-end step_turn_for _ _ l.i _ (listed_at l.heads l.tables l.texts l.answers) (listed_at l.heads l.tables l.texts l.answers)
      (omega arith) l.invariant.0 l.invariant.4),
  l.invariant.5,
)
