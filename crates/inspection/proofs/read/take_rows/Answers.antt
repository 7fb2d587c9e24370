use mathlib.Core.Path.{◌∙◌, sym, refl}
use mathlib.Core.Bool.{false}
use native.Mathlib.Omega.{arith}
use Rattle.block_log.proofs.Taken.{live-marks, live_end}
use Rattle.inspection.proofs.read.take_rows.Goals as goal

pub loop-b-init : goal.loop-b-init
loop-b-init c = refl

pub loop-b-preserved : goal.loop-b-preserved
loop-b-preserved c = let l = c.loop-b in
    l.invariant ∙ live-marks c.args.table.now l.map _ l.b-index (omega (arith, c.loop-b-test.true)) (rw c.from.ensures at c.take_one.ensures)

pub returns : goal.returns
returns c = let l = c.loop-b in
    sym (l.invariant ∙ (live_end c.args.table.now l.map l.b-index false (omega (arith, c.loop-b-test.false))).0)
