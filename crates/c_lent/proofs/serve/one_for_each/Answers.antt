-- `c_lent::serve::one_for_each`: test by test.
use lib.Dec.{leb, eqb}
use Rattle.c_lent.proofs.ServeReasons.{six}
use Rattle.c_lent.specs.Serving.{one_for_each}
use Rattle.c_lent.proofs.serve.one_for_each.Goals as goal

pub returns : goal.returns
unfolding one_for_each
returns c = let a = c.args in six (leb 1 a.n) (leb a.n 32) (eqb a.tables a.n) (eqb a.texts a.n) (eqb a.writes a.n) (eqb a.answers a.n)
