-- `block_log::open::nobody_joined`: a filled array of zeros is what nobody reports. Assumes nothing.
use mathlib.Core.Path.{refl}
use Rattle.block_log.specs.Opening.{no_reports}
use Rattle.block_log.proofs.open.nobody_joined.Goals as goal

pub returns : goal.returns
unfolding no_reports
returns c = refl
