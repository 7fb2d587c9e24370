-- `recovery::each_gets_a_turn` meets its contract: the claim is the theorem `turns` of proofs/Turns. Assumes nothing.
use Rattle.recovery.proofs.Turns.{turns}
use Rattle.recovery.proofs.each_gets_a_turn.Goals as goal

pub returns : goal.returns
returns c = turns
