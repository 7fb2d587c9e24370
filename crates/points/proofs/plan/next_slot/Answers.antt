-- `points::plan::next_slot`: one slot on.
use native.Mathlib.Numerals.{add-one}
use Rattle.points.proofs.plan.next_slot.Goals as goal

pub returns : goal.returns
returns c = rw add-one
