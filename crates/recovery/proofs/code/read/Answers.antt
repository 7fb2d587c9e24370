-- `recovery::code::read` meets its contract: what the call of `points` answers and leaves shows the book's file (Served). Assumes nothing.
use Rattle.recovery.proofs.Served.{read-served}
use Rattle.recovery.proofs.code.read.Goals as goal

pub returns : goal.returns
returns c = let a = c.args in
    let r = c.read in
    read-served a.image.now a.shared a.point.head a.point.table a.offset a.buffer.now r.result _ r.ensures
