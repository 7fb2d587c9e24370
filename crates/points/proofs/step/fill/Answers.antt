-- `points::step::fill`: the word that the definition says, and the position after it.
use native.Mathlib.Numerals.{add-one}
use Rattle.points.specs.Stepping.{fill}
use Rattle.points.proofs.step.fill.Goals as goal

pub returns : goal.returns
unfolding fill
returns c s = rw (c.storing.ensures, c.turned-filled.ensures, c.new_word-value.ensures, add-one)
