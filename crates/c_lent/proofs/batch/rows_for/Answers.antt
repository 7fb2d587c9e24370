use mathlib.Core.Path.{refl, ◌∙◌}
use native.Mathlib.Omega.{arith}
use lib.ListN.{length-set}
use Rattle.c_lent.proofs.WordsLeft.{rows-set}
use Rattle.c_lent.proofs.batch.rows_for.Goals as goal

pub loop-i-preserved : goal.loop-i-preserved
loop-i-preserved c = let l = c.loop-i in
    let a = c.args in
    let same = length-set l.rows l.i c.row_for.result in (
      omega arith,
      refl,
      l.invariant.2,
      l.invariant.3,
      omega (arith, same),
      same ∙ l.invariant.5,
      rows-set a.heads.now a.tables.now a.answers.now l.rows c.row_for.result l.i (omega arith) l.invariant.6 c.row_for.ensures,
    )
