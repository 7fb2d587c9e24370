-- A list of one block, 0 being none.
use mathlib.Core.Path.{refl}
use Rattle.block_log.proofs.Taken.{one_none, one-some}
use Rattle.inspection.proofs.read.take_one.Goals as goal

pub returns-then-b-eq0 : goal.returns-then-b-eq0
returns-then-b-eq0 c = let a = c.args in (one_none a.map.now a.b c.if-b-eq0.true).0

pub returns : goal.returns
returns c = let a = c.args in
    (one-some a.map.now _ a.b _ c.if-b-eq0.false refl c.set_block.ensures).0
