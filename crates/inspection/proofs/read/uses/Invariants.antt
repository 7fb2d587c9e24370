-- The uses of the blocks so far.
use mathlib.Core.Path.{◌≡◌}
use Prim.Native.Nat.{ℕ, ◌<◌}
use lib.ListN.{length, get_or}
use Rattle.inspection.specs.declared.Use.TheVariants.{Free}
use Rattle.inspection.specs.Told.{use_number}
use Rattle.inspection.specs.Parts.{use_in}
use Rattle.inspection.proofs.read.uses.Given as goal

abbrev pub invariant-loop-b : goal.invariant-loop-b
invariant-loop-b l = (length l.of-items ≡ 1024) × ((i : ℕ) → i < l.b → use_number (get_or l.of-items i Free) ≡ use_in l.logs l.map i)
