-- `points::extend::zero_out`: the position one on.
use native.Mathlib.Numerals.{add-one}
use Rattle.points.specs.Stepping.{zero_out}
use Rattle.points.proofs.extend.zero_out.Goals as goal

pub returns : goal.returns
unfolding zero_out
returns c = rw (c.storing.ensures, c.turned-zeroed.ensures, add-one)
