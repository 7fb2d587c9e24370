-- The longest stretch is the best so far, the row that ends here with what follows it, or one that comes.
use mathlib.Core.Path.{◌≡◌}
use Prim.Native.Nat.{◌≤◌, ◌<◌, max}
use Rattle.inspection.specs.Reading.{longest_free}
use Rattle.inspection.proofs.Longest.{reach}
use Rattle.inspection.proofs.read.longest_free.Given as goal

abbrev pub invariant-loop-b : goal.invariant-loop-b
invariant-loop-b l = (longest_free l.map l.blocks ≡ reach l.map l.blocks l.best l.row l.b) × (l.row ≤ l.best) × (l.best < l.b) × (l.b ≤ max l.blocks 1)
