-- `recovery::code::join` meets its contract: what the call of `points` answers is what its definition says (Served). Assumes nothing.
use Rattle.recovery.proofs.Served.{join-served}
use Rattle.recovery.proofs.code.join.Goals as goal

pub returns : goal.returns
returns c = let a = c.args in join-served a.image.now a.shared a.number c.join.result c.join.ensures
