-- `c_served::open` meets its contract: the shared record that the call for C leaves is that of the world which opening starts (Served). Assumes nothing.
use Rattle.c_served.proofs.Served.{open-for}
use Rattle.c_served.proofs.open.Goals as goal

pub returns : goal.returns
returns c = let a = c.args in
    let o = c.open in
    open-for a.image.now a.scratch.now o.result _ o.ensures.0.answers o.ensures.1
