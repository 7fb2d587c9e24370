-- `recovery::lone_write` meets its contract: the claim is the theorem `lone-write` of proofs/LoneWrite. Assumes nothing.
use Rattle.recovery.proofs.LoneWrite.{lone-write}
use Rattle.recovery.proofs.lone_write.Goals as goal

pub returns : goal.returns
returns c = lone-write
