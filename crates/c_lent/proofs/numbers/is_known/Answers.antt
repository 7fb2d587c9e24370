-- `c_lent::numbers::is_known`: the phase first, then the retry count. Assumes nothing.
use lib.ListN.{get_or}
use borrow.Author.Tests.{lt-leb, le-leb}
use Rattle.c_lent.proofs.numbers.is_known.Goals as goal

pub returns-then-numbers-gt6 : goal.returns-then-numbers-gt6
returns-then-numbers-gt6 c = let a = c.args in rw (lt-leb (get_or a.numbers.now 7 0) 6 c.if-numbers-gt6.true)

pub returns : goal.returns
returns c = let a = c.args in
    rw (le-leb (get_or a.numbers.now 7 0) 6 c.if-numbers-gt6.false)
