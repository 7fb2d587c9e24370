-- `points::begin::begin_read`: the read's beginning on copies of table and text.
use Rattle.points.proofs.Begins.{whole-begin-read}
use Rattle.points.proofs.begin.begin_read.Goals as goal

pub returns : goal.returns
returns c = let a = c.args in
    whole-begin-read a.image.now a.shared a.point a.offset a.size c.numbers-numbers.result c.begin_read_lent-left.result _ _ c.begun.result
    c.numbers-numbers.ensures c.begun.ensures c.begin_read_lent-left.ensures
