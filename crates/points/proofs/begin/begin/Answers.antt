-- `points::begin::begin`: the beginning on copies of map, table and text.
use Rattle.points.proofs.Begins.{whole-begin}
use Rattle.points.proofs.begin.begin.Goals as goal

pub returns : goal.returns
returns c = let a = c.args in
    whole-begin a.image.now a.shared a.point a.offset a.text.now c.numbers-numbers.result c.begin_lent-left.result _ _ _ c.begun.result
    c.numbers-numbers.ensures (rw c.with_taken.ensures at c.begun.ensures) c.begin_lent-left.ensures
