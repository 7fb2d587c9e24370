-- The fault of the first log block that has one.
use mathlib.Core.Path.{ap, ◌∙◌}
use Rattle.words.specs.Edition.{one}
use Rattle.words.specs.Memory.{memory}
use Rattle.inspection.specs.Faults.{block_fault}
use Rattle.inspection.proofs.faults.log_fault.Goals as goal

pub returns : goal.returns
returns c = c.block_fault.ensures ∙ ap (block_fault (memory one c.args.image.now)) c.first_bad.ensures
