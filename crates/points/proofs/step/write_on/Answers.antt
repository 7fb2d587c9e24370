-- `points::step::write_on`: zeroing or filling.
use mathlib.Core.Path.{sym, ◌∙◌}
use Rattle.words.specs.Edition.{one}
use Rattle.words.specs.Memory.{memory}
use Rattle.points.specs.Record.{point_of}
use Rattle.points.specs.Search.{shared_of}
use Rattle.points.proofs.StepCases.{on-zeroing, on-filling}
use Rattle.points.proofs.step.write_on.Goals as goal

pub returns-then-is_zeroing : goal.returns-then-is_zeroing
returns-then-is_zeroing c reports = let is-zeroing = c.is_zeroing in
    let a = c.args in
    let m = memory one a.image.now in
    c.extending.ensures ∙ sym
    (on-zeroing one m (shared_of a.numbers a.taken.now reports) (point_of a.head a.table.now a.text.now)
    (sym is-zeroing.ensures ∙ c.if-is_zeroing.true))

pub filling-requires : goal.filling-requires
filling-requires c = let pre = c.requires in
    (pre, sym c.is_zeroing.ensures ∙ c.if-is_zeroing.false)

pub returns : goal.returns
returns c reports = let is-zeroing = c.is_zeroing in
    let a = c.args in
    let m = memory one a.image.now in
    c.filling.ensures reports ∙ sym
    (on-filling one m (shared_of a.numbers a.taken.now reports) (point_of a.head a.table.now a.text.now)
    (sym is-zeroing.ensures ∙ c.if-is_zeroing.false))
