use native.Mathlib.Omega.{arith}
use Rattle.dispatch.proofs.Rounds.{turns-first, turns-next, turns-all}
use Rattle.dispatch.proofs.round.Goals as goal

pub loop-i-init : goal.loop-i-init
loop-i-init c xs h = turns-first _ _ xs _ _ h

pub loop-i-preserved : goal.loop-i-preserved
loop-i-preserved c xs h = turns-next (c.loop-i.invariant xs h) _ _ _ _ _ _ (omega arith) c.step_turn-left.ensures

pub returns : goal.returns
returns c xs h = turns-all (c.loop-i.invariant xs h) (omega arith)
