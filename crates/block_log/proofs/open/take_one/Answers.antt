-- Block 0 stands for none; another is taken, and met if it was taken before.
use Rattle.block_log.proofs.Taken.{one_none, one-some}
use Rattle.block_log.proofs.open.take_one.Goals as goal

pub returns-then-b-eq0 : goal.returns-then-b-eq0
returns-then-b-eq0 c = let a = c.args in one_none a.map.now a.b c.if-b-eq0.true

pub returns : goal.returns
returns c = let a = c.args in
    one-some a.map.now _ a.b c.is_taken-met.result c.if-b-eq0.false c.is_taken-met.ensures c.set_block.ensures
