-- `recovery::code::leave` meets its contract: what the call of `points` answers is what its definition says (Served). Assumes nothing.
use Rattle.recovery.proofs.Served.{leave-served}
use Rattle.recovery.proofs.code.leave.Goals as goal

pub returns : goal.returns
returns c = let a = c.args in leave-served a.image.now a.shared a.point c.leave.result c.leave.ensures
