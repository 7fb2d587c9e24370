-- `points::step::step_lent`: a read's step or a write's, by the phase.
use mathlib.Core.Path.{sym, ◌∙◌}
use Rattle.points.specs.Record.{point_of}
use Rattle.points.specs.Search.{shared_of}
use Rattle.points.proofs.Planned.{write-leaves, read-leaves}
use Rattle.points.proofs.step.step_lent.Goals as goal

pub step-requires : goal.step-requires
step-requires c = sym c.is_reading.ensures ∙ c.if-is_reading.true

pub returns-then-is_reading : goal.returns-then-is_reading
returns-then-is_reading c = let a = c.args in (
  λ reports known. read-leaves a.image.now a.numbers a.taken.now reports (point_of a.head a.table.now a.text.now) a.bytes.now
      c.step.result _ _ _ known c.step.ensures,
  c.step.ensures.lengthens,
)

pub write_lent-requires : goal.write_lent-requires
write_lent-requires c = sym c.is_reading.ensures ∙ c.if-is_reading.false

pub returns : goal.returns
returns c = let a = c.args in
    let w = c.write_lent in (
      λ reports known. write-leaves a.image.now (shared_of a.numbers a.taken.now reports) (point_of a.head a.table.now a.text.now)
          a.bytes.now _ _ _ (w.ensures.0 reports known),
      w.ensures.1,
    )
