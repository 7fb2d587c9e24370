-- The first from here on is the first of all.
use mathlib.Core.Path.{◌≡◌}
use lib.ListN.{drop}
use Rattle.words.specs.Edition.{one}
use Rattle.words.specs.Memory.{memory}
use Rattle.inspection.specs.Faults.{first_bad}
use Rattle.inspection.proofs.faults.first_bad.Given as goal

abbrev pub invariant-loop-b : goal.invariant-loop-b
invariant-loop-b l = first_bad (memory one l.image) l.chain ≡ first_bad (memory one l.image) (drop l.b-index l.chain)
