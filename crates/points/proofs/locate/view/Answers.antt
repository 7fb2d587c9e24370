-- `points::locate::view` meets its contract: the part that the located index names. Assumes nothing.
use mathlib.Core.Path.{ap, ◌∙◌}
use Rattle.words.specs.Edition.{one}
use Rattle.words.specs.Memory.{memory}
use Rattle.block_log.specs.declared.Shared.{Shared}
use Rattle.points.specs.declared.Count.{Count}
use Rattle.points.specs.Reading.{locating}
use Rattle.points.specs.Lent.{part_of}
use Rattle.points.proofs.Fits.{of-known}
use Rattle.points.proofs.ReadAnswers.{of-numbers, view-part}
use Rattle.points.proofs.locate.view.Goals as goal

pub returns : goal.returns
unfolding locating
returns c = let a = c.args in
    let located = c.locate_lent-found.ensures a.shared.taken a.shared.reports (of-known a.shared _ c.numbers.ensures)
    ∙ ap (λ (s : Shared). locating one a.image.now s a.point.head a.point.table a.v) (of-numbers a.shared _ c.numbers.ensures) in
    c.part.ensures ∙ ap (λ (r : Count). part_of (memory one a.image.now) r.count) located
    ∙ view-part one a.image.now a.shared a.point.head a.point.table a.v
