use Rattle.c_lent.specs.Numbers.{shared_as, shared_lent, point_lent}
use Rattle.c_lent.specs.Calls.{left}
use Rattle.c_lent.specs.Serving.{point_as}
use Rattle.c_lent.proofs.Turns.{turn-begun}
use Rattle.c_lent.proofs.turn.begin_turn.Goals as goal

pub returns : goal.returns
returns c = let b = c.begin-refused in
    let a = c.args in
    turn-begun a.image.now (shared_lent a.shared.now a.taken.now) (point_lent a.head.now a.table.now a.text.now) a.offset a.bytes.now
    (left b.result (shared_as b.new.shared b.new.taken) (point_as b.new.head b.new.table b.new.text))
    c.begun_answer.result b.ensures c.begun_answer.ensures
