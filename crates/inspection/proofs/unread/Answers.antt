-- The record of zeros.
use mathlib.Core.Path.{refl}
use Rattle.inspection.specs.Inspecting.{unread}
use Rattle.inspection.proofs.unread.Goals as goal

pub returns : goal.returns
unfolding unread
returns c = refl
