-- `recovery::code::step` meets its contract: what the call of `points` answers is what its definition says (Served). Assumes nothing.
use Rattle.recovery.proofs.Served.{step-served}
use Rattle.recovery.proofs.code.step.Goals as goal

pub returns : goal.returns
returns c = let a = c.args in
    let s = c.step in
    step-served a.image.now a.shared a.point a.bytes.now s.result _ _ s.ensures
