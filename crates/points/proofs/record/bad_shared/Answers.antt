-- `points::record::bad_shared`: by its numbers. Assumes nothing.
use mathlib.Core.Path.{◌∙◌, ap}
use Rattle.words.specs.Edition.{one}
use Rattle.points.specs.declared.Numbers.{Numbers}
use Rattle.points.specs.Record.{bad_shared}
use Rattle.points.specs.Search.{shared_of}
use Rattle.points.proofs.Fits.{of-known}
use Rattle.points.proofs.record.bad_shared.Goals as goal

pub returns : goal.returns
returns c = let a = c.args in
    c.bad_numbers.ensures a.shared.taken a.shared.reports (of-known a.shared _ c.numbers.ensures)
    ∙ ap (λ (n : Numbers). bad_shared one a.image.now (shared_of n a.shared.taken a.shared.reports)) c.numbers.ensures
