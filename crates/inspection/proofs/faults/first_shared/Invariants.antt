-- The first clash from here on, with those before taken, is the first of all.
use mathlib.Core.Path.{◌≡◌}
use Prim.Native.Nat.{◌+◌, ◌≤◌}
use lib.ListN.{drop}
use Rattle.inspection.specs.Parts.{first_clash}
use Rattle.inspection.proofs.faults.first_shared.Given as goal

abbrev pub invariant-loop-v : goal.invariant-loop-v
invariant-loop-v l = (l.v ≤ 256) × (first_clash l.initial.map l.table ≡ l.v + first_clash l.map (drop l.v l.table))
