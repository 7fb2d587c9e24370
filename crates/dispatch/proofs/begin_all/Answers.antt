use Rattle.std.proofs.Common.{rules}
use native.Mathlib.Omega.{arith}
use Rattle.dispatch.proofs.Beginnings.{begins-next, begins-all}
use Rattle.dispatch.proofs.begin_all.Goals as goal

pub loop-i-preserved : goal.loop-i-preserved
loop-i-preserved c = begins-next _ _ _ _ _ _ c.requires _ _ _ _ _ c.loop-i.invariant (omega arith) _ _ (search rules) _ _ _ c.begin_turn-left.ensures

pub returns : goal.returns
returns c = begins-all _ _ _ _ _ _ c.requires _ _ _ _ _ c.loop-i.invariant (omega arith)
