-- `recovery::is_answered` meets its contract: the claim is the theorem `answered` of proofs/Answered. Assumes nothing.
use Rattle.recovery.proofs.Answered.{answered}
use Rattle.recovery.proofs.is_answered.Goals as goal

pub returns : goal.returns
returns c = answered
