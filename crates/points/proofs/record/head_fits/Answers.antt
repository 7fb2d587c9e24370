-- `points::record::head_fits` meets its contract: its tests are those of the list, those of what is under way only where something is. Assumes nothing.
use mathlib.Core.Path.{sym, ◌∙◌}
use Rattle.words.specs.Edition.{one}
use Rattle.points.proofs.Fits.{head-idle, head-busy}
use Rattle.points.proofs.record.head_fits.Goals as goal

pub returns-then-is_idle : goal.returns-then-is_idle
returns-then-is_idle c = let a = c.args in cc (head-idle one a.blocks a.head (sym c.is_idle.ensures ∙ c.if-is_idle.true))

pub returns : goal.returns
returns c = let a = c.args in
    cc (head-busy one a.blocks a.head (sym c.is_idle.ensures ∙ c.if-is_idle.false))
