-- `c_lent::numbers::lead`: number by number; the reports are looked at once. Assumes nothing.
use Rattle.c_lent.proofs.Shared.{rest-whole}
use Rattle.c_lent.proofs.numbers.lead.Goals as goal

pub returns : goal.returns
returns c = let a = c.args in
    rw (c.all_below.ensures, rest-whole a.numbers.now)
