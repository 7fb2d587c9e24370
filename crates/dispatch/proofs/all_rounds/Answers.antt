use native.Mathlib.Omega.{arith}
use Rattle.std.proofs.Common.{rules}
use Rattle.dispatch.proofs.Rounds.{rounds-next, rounds-none, rounds-idle}
use Rattle.dispatch.proofs.all_rounds.Goals as goal

pub loop-preserved : goal.loop-preserved
loop-preserved c xs h = rounds-next (c.loop.invariant xs h) _ (omega arith) _ _ _ _ c.round-left.ensures

pub returns-then-not-anybody : goal.returns-then-not-anybody
returns-then-not-anybody c xs h = rounds-idle (c.loop.invariant xs h) (search rules)

pub returns-after-loop : goal.returns-after-loop
returns-after-loop c xs h = rounds-none (c.loop.invariant xs h) (omega arith)
