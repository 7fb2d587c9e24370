-- `recovery::code::open` meets its contract: what opening answers is the world that a list begins with (Served). Assumes nothing.
use Rattle.recovery.proofs.Served.{open-served}
use Rattle.recovery.proofs.code.open.Goals as goal

pub returns : goal.returns
returns c = let a = c.args in
    let o = c.open in
    open-served a.image.now a.scratch.now o.result o.ensures.0
