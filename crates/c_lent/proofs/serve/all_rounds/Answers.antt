use mathlib.Core.Path.{refl, sym, ◌∙◌}
use native.Mathlib.Omega.{arith}
use lib.ListN.{length}
use Rattle.c_lent.specs.Serving.{listed_at}
use Rattle.c_lent.proofs.Turns.{rounds-over, rounds-idle}
use Rattle.c_lent.proofs.RoundsMore.{rounds-more}
use Rattle.c_lent.proofs.serve.all_rounds.Goals as goal

pub loop-left-init : goal.loop-left-init
loop-left-init c = (refl, c.requires.0.lengths, refl, c.requires.0.fits)

pub batch-made-requires : goal.batch-made-requires
batch-made-requires c = let l = c.loop-left in
    let few = c.requires.1 in
    let h = l.invariant.1.0 in (
      record {
        lengths = (refl, l.invariant.1.1 ∙ sym h, l.invariant.1.2 ∙ sym h, l.invariant.1.3 ∙ sym h);
        fits = λ i k g. l.invariant.3 i (omega (arith, h, k)) g;
      },
      omega (arith, h, few),
      omega arith,
    )

pub overflow_sub-left : goal.overflow_sub-left
overflow_sub-left c = c.batch-made.ensures.1

pub loop-left-smaller : goal.loop-left-smaller
loop-left-smaller c = let y = c.batch-made.ensures in omega (arith, y.0, y.1)

pub loop-left-preserved : goal.loop-left-preserved
loop-left-preserved c = let l = c.loop-left in
    let y = c.batch-made in
    let h = l.invariant.1.0 in (
      c.image-1.given ∙ l.invariant.0,
      (c.heads-1.given ∙ h, c.tables-1.given ∙ l.invariant.1.1, c.texts-1.given ∙ l.invariant.1.2, c.answers-1.given ∙ l.invariant.1.3),
      l.invariant.2 ∙ rounds-more l.left _ _ _ _ _ y.ensures.1 y.ensures.2.0,
      λ i k g. y.ensures.2.1 i (omega (arith, h, k)) g,
    )

pub shape_of-image-else-anybody : goal.shape_of-image-else-anybody
shape_of-image-else-anybody c = c.loop-left.invariant.0

pub shape_of-heads-else-anybody : goal.shape_of-heads-else-anybody
shape_of-heads-else-anybody c = c.loop-left.invariant.1.0

pub shape_of-tables-else-anybody : goal.shape_of-tables-else-anybody
shape_of-tables-else-anybody c = c.loop-left.invariant.1.1 ∙ sym c.requires.0.lengths.1

pub shape_of-texts-else-anybody : goal.shape_of-texts-else-anybody
shape_of-texts-else-anybody c = c.loop-left.invariant.1.2 ∙ sym c.requires.0.lengths.2

pub shape_of-answers-else-anybody : goal.shape_of-answers-else-anybody
shape_of-answers-else-anybody c = c.loop-left.invariant.1.3 ∙ sym c.requires.0.lengths.3

pub returns-else-anybody : goal.returns-else-anybody
returns-else-anybody c = let l = c.loop-left in
    rounds-idle l.left _ (length l.heads) (listed_at l.heads l.tables l.texts l.answers)
    (rw (l.invariant.1.0 ∙ sym l.invariant.1.3) (sym c.anybody.ensures ∙ c.if-anybody.false)) ∙ sym l.invariant.2

pub shape_of-image-after-loop-left : goal.shape_of-image-after-loop-left
shape_of-image-after-loop-left c = c.loop-left.invariant.0

pub shape_of-heads-after-loop-left : goal.shape_of-heads-after-loop-left
shape_of-heads-after-loop-left c = c.loop-left.invariant.1.0

pub shape_of-tables-after-loop-left : goal.shape_of-tables-after-loop-left
shape_of-tables-after-loop-left c = c.loop-left.invariant.1.1 ∙ sym c.requires.0.lengths.1

pub shape_of-texts-after-loop-left : goal.shape_of-texts-after-loop-left
shape_of-texts-after-loop-left c = c.loop-left.invariant.1.2 ∙ sym c.requires.0.lengths.2

pub shape_of-answers-after-loop-left : goal.shape_of-answers-after-loop-left
shape_of-answers-after-loop-left c = c.loop-left.invariant.1.3 ∙ sym c.requires.0.lengths.3

pub returns-after-loop-left : goal.returns-after-loop-left
returns-after-loop-left c = let l = c.loop-left in
    rounds-over l.left _ _ (omega arith) ∙ sym l.invariant.2
