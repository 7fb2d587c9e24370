-- `points::read::read`: by the shared record's numbers. Assumes nothing.
use mathlib.Core.Path.{subst}
use Rattle.block_log.specs.declared.Shared.{Shared}
use Rattle.points.specs.Reading.{ReadLeaves}
use Rattle.points.proofs.Fits.{of-known}
use Rattle.points.proofs.ReadAnswers.{of-numbers}
use Rattle.points.proofs.read.read.Goals as goal

pub returns : goal.returns
returns c = let a = c.args in
    let left = c.read_lent.new.buffer in
    subst (λ (s : Shared). ReadLeaves a.image.now s a.point.head a.point.table a.offset a.buffer.now c.read_lent.result left)
    (of-numbers a.shared _ c.numbers.ensures) (c.read_lent.ensures a.shared.taken a.shared.reports (of-known a.shared _ c.numbers.ensures))
