-- `recovery::no_leak` meets its contract: the claim is the theorem `no-leak` of proofs/NoLeak. Assumes nothing.
use Rattle.recovery.proofs.NoLeak.{no-leak}
use Rattle.recovery.proofs.no_leak.Goals as goal

pub returns : goal.returns
returns c = no-leak
