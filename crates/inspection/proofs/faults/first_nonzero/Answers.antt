-- The words ahead are counted.
use mathlib.Core.Path.{ap, ◌∙◌}
use Prim.Native.Nat.{ℕ, ◌+◌}
use lib.ListN.{drop}
use Rattle.inspection.proofs.Searches.{zeros-taken}
use Rattle.inspection.proofs.faults.first_nonzero.Goals as goal

pub returns : goal.returns
returns c = ap (λ (n : ℕ). c.args.from + n) (c.zeros_ahead.ensures ∙ zeros-taken (drop c.args.from c.args.part.now))
