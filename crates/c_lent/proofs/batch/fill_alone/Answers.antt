use mathlib.Core.Path.{refl}
use native.Mathlib.Omega.{arith}
use Rattle.points.proofs.Rows.{few_words}
use Rattle.c_lent.specs.Numbers.{head_from}
use Rattle.c_lent.proofs.batch.fill_alone.Goals as goal

pub head-requires : goal.head-requires
head-requires c = c.requires.0

pub overflow_add-head : goal.overflow_add-head
overflow_add-head c = let block = c.requires.1 in
    omega (arith, block.2, few_words (head_from c.args.head.now) block.0)

pub returns : goal.returns
returns c = let block = c.requires.1 in
    let e = c.head.ensures in
    (rw e at (c.fill_words.ensures (rw e block)), refl, refl)
