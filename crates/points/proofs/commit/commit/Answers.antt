-- `points::commit::commit`: the plan of the definition, field by field.
use Rattle.points.specs.Stepping.{commit}
use Rattle.points.proofs.commit.commit.Goals as goal

pub returns : goal.returns
unfolding commit
returns c = rw (c.no_write.ensures, c.next_slot.ensures, c.entry_for-entry.ensures)
