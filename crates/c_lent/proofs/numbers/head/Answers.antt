-- `c_lent::numbers::head`: number by number; a retry count of a head has 16 bits. Assumes nothing.
use native.Mathlib.Omega.{arith}
use lib.ListN.{get_or}
use lib.Dec.{leb}
use borrow.Author.Tests.{leb-true}
use Rattle.words.proofs.Logic.{and_right}
use Rattle.c_lent.proofs.numbers.head.Goals as goal

pub overflow_cast-result : goal.overflow_cast-result
overflow_cast-result c = let xs = c.args.numbers.now in
    let l = leb-true (get_or xs 10 0) 65535 (and_right (leb (get_or xs 7 0) 6) (leb (get_or xs 10 0) 65535) c.requires) in
    record { fits = omega (arith, l) }

pub returns : goal.returns
returns c = rw c.from.ensures
