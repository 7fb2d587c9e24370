-- `recovery::code::locate` meets its contract: the block that the call of `points` answers holds the book's file (Served). Assumes nothing.
use Rattle.recovery.proofs.Served.{locate-served}
use Rattle.recovery.proofs.code.locate.Goals as goal

pub returns : goal.returns
returns c = let a = c.args in
    locate-served a.image.now a.shared a.point.head a.point.table a.block c.locate.result c.locate.ensures
