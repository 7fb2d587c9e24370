-- `points::record::fits` meets its contract: its tests are those of the list. Assumes nothing.
use mathlib.Core.List.{[], ◌∷◌}
use Rattle.points.specs.Record.{fits}
use Rattle.points.proofs.Fits.{ands-every}
use Rattle.points.proofs.record.fits.Goals as goal

pub returns : goal.returns
unfolding fits
returns c = let a = c.args in cc (ands-every c.head_fits.result (c.table_fits.result ∷ []))
