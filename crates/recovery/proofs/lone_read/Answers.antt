-- `recovery::lone_read` meets its contract: the claim is the theorem `lone-read` of proofs/LoneRead. Assumes nothing.
use Rattle.recovery.proofs.LoneRead.{lone-read}
use Rattle.recovery.proofs.lone_read.Goals as goal

pub returns : goal.returns
returns c = lone-read
