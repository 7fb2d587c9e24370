-- `points::serve::passing`: the head of its parts.
use mathlib.Core.Path.{◌∙◌}
use Rattle.points.proofs.serve.passing.Goals as goal

pub returns : goal.returns
returns c = c.head_of.ensures ∙ rw (c.next_slot.ensures, c.turned-later.ensures, c.retried-retries.ensures, c.requires.0)
