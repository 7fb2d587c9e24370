-- `points::record::work_fits` meets its contract: a read's tests or a write's, by the phase. Assumes nothing.
use mathlib.Core.Path.{sym, ◌∙◌}
use Rattle.words.proofs.Choice.{choose-true, choose-false}
use Rattle.points.proofs.record.work_fits.Goals as goal

pub returns-then-is_reading : goal.returns-then-is_reading
returns-then-is_reading c = c.range_fits.ensures ∙ sym (choose-true _ _ _ (sym c.is_reading.ensures ∙ c.if-is_reading.true))

pub returns : goal.returns
returns c = c.write_fits.ensures ∙ sym (choose-false _ _ _ (sym c.is_reading.ensures ∙ c.if-is_reading.false))
