-- `points::join::idle_at`: the filled arrays are the definitions' lists of zeros.
use mathlib.Core.Path.{ap, ◌∙◌}
use Rattle.points.specs.declared.Head.{Head}
use Rattle.points.specs.Record.{no_table, no_text, head_of, point_of}
use Rattle.points.proofs.join.idle_at.Goals as goal

pub returns : goal.returns
unfolding no_table no_text
returns c = let a = c.args in
    ap (λ (h : Head). point_of h no_table no_text) (c.head_of.ensures ∙ ap (head_of a.number 0 a.place) c.no_write.ensures)
