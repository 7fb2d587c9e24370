use mathlib.Core.Path.{refl, sym, ◌∙◌}
use borrow.Author.Tests.{eqb-true, not-false}
use Rattle.words.proofs.Tests.{no_true}
use Rattle.c_lent.proofs.batch.fills_alone.Goals as goal

pub returns-then-heads-ne1 : goal.returns-then-heads-ne1
returns-then-heads-ne1 c e = absurd (no_true e refl)

pub returns-then-not-goes_on : goal.returns-then-not-goes_on
returns-then-not-goes_on c e = absurd (no_true e refl)

pub returns : goal.returns
returns c e = (c.if-heads-ne1.false, sym c.goes_on.ensures ∙ not-false _ c.if-not-goes_on.false-raw, eqb-true _ _ e)
