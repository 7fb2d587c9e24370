-- `points::locate::locate`: by the shared record's numbers. Assumes nothing.
use mathlib.Core.Path.{◌∙◌, ap}
use Rattle.words.specs.Edition.{one}
use Rattle.block_log.specs.declared.Shared.{Shared}
use Rattle.points.specs.Reading.{locating}
use Rattle.points.proofs.Fits.{of-known}
use Rattle.points.proofs.ReadAnswers.{of-numbers}
use Rattle.points.proofs.locate.locate.Goals as goal

pub returns : goal.returns
returns c = let a = c.args in
    c.locate_lent.ensures a.shared.taken a.shared.reports (of-known a.shared _ c.numbers.ensures)
    ∙ ap (λ (s : Shared). locating one a.image.now s a.point.head a.point.table a.v) (of-numbers a.shared _ c.numbers.ensures)
