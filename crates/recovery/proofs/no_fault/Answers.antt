-- `recovery::no_fault` meets its contract: the claim is the theorem `no-fault` of proofs/NoFault. Assumes nothing.
use Rattle.recovery.proofs.NoFault.{no-fault}
use Rattle.recovery.proofs.no_fault.Goals as goal

pub returns : goal.returns
returns c = no-fault
