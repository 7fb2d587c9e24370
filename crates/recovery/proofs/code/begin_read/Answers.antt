-- `recovery::code::begin_read` meets its contract: what the call of `points` answers is what its definition says (Served). Assumes nothing.
use Rattle.recovery.proofs.Served.{begin-read-served}
use Rattle.recovery.proofs.code.begin_read.Goals as goal

pub returns : goal.returns
returns c = let a = c.args in
    begin-read-served a.image.now a.shared a.point a.offset a.size c.begin_read.result c.begin_read.ensures
