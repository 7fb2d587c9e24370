-- `recovery::read_bytes` meets its contract: the claim is the theorem `read-bytes` of proofs/ReadBytes. Assumes nothing.
use Rattle.recovery.proofs.ReadBytes.{read-bytes}
use Rattle.recovery.proofs.read_bytes.Goals as goal

pub returns : goal.returns
returns c = read-bytes
