-- A stretch has no more answers than there were steps.
use Rattle.std.proofs.Common.{◌≤◌}
use Rattle.session.proofs.bench.Bench.step.Given as goal

abbrev pub invariant-loop-i : goal.invariant-loop-i
invariant-loop-i g l = l.times ≤ l.i
