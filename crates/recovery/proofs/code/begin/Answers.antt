-- `recovery::code::begin` meets its contract: what the call of `points` answers is what its definition says (Served). Assumes nothing.
use Rattle.recovery.proofs.Served.{begin-served}
use Rattle.recovery.proofs.code.begin.Goals as goal

pub returns : goal.returns
returns c = let a = c.args in
    begin-served a.image.now a.shared a.point a.offset a.text.now c.begin.result c.begin.ensures
