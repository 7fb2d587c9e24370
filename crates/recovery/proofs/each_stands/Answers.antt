-- `recovery::each_stands` meets its contract: the claim is the theorem `stands` of proofs/Stands. Assumes nothing.
use Rattle.recovery.proofs.Stands.{stands}
use Rattle.recovery.proofs.each_stands.Goals as goal

pub returns : goal.returns
returns c = stands
