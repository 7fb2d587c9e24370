use lib.ListN.{length-set}
use native.Mathlib.Omega.{arith}
use mathlib.Core.Path.{◌∙◌}
use Rattle.c_lent.proofs.ByRows.{are-next}
use Rattle.c_lent.proofs.batch.all_go_on.Goals as goal

pub loop-i-preserved : goal.loop-i-preserved
loop-i-preserved c = let l = c.loop-i in
    let a = c.args in (
      omega arith,
      l.invariant.1,
      length-set l.heads l.i _ ∙ l.invariant.2,
      length-set l.answers l.i _ ∙ l.invariant.3,
      are-next a.m a.heads.now a.answers.now l.heads l.answers _ _ l.i (omega arith) (omega arith) l.invariant.4 c.go_on.ensures,
    )
