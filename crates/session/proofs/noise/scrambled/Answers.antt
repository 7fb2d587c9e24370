-- The definition, by computation.
use mathlib.Core.Path.{refl}
use Rattle.session.specs.Made.{scrambled}
use Rattle.session.proofs.noise.scrambled.Goals as goal

pub returns : goal.returns
unfolding scrambled
returns c = refl
