-- `points::serve::fill_turn`: the row stores its word, or nothing.
use mathlib.Core.Path.{sym, ◌∙◌}
use Rattle.points.proofs.Rows.{stored_on, stored-off}
use Rattle.points.proofs.serve.fill_turn.Goals as goal

pub returns-in-Some : goal.returns-in-Some
returns-in-Some c = let a = c.args in
    c.put_next.ensures ∙ sym (stored_on a.r c.in-Some.due a.due a.text.now a.image.now c.in-Some.is)

pub returns-in_default : goal.returns-in_default
returns-in_default c = let a = c.args in sym (stored-off a.r a.due a.text.now a.image.now c.in_default.is)
