-- `recovery::demand_three` meets its contract: the claim is the theorem `demand3` of proofs/Demand3. Assumes nothing.
use Rattle.recovery.proofs.Demand3.{demand3}
use Rattle.recovery.proofs.demand_three.Goals as goal

pub returns : goal.returns
returns c = demand3
