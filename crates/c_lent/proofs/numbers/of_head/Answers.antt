-- `c_lent::numbers::of_head`: number by number. Assumes nothing.
use Rattle.c_lent.proofs.numbers.of_head.Goals as goal

pub returns : goal.returns
returns c = rw c.from.ensures
