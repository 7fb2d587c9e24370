use lib.Seq.{take_all}
use Rattle.inspection.proofs.Legal.{taken_none, taken-on}
use Rattle.inspection.proofs.read.replay.Goals as goal

pub loop-e-init : goal.loop-e-init
loop-e-init c = taken_none c.args.table.now 0

pub loop-e-preserved : goal.loop-e-preserved
loop-e-preserved c = let l = c.loop-e in
    taken-on c.args.entries.now l.e-index c.args.table.now l.table _ l.size _ c.loop-e-test.true c.requires l.invariant c.take_entry-size.ensures.legal

pub returns : goal.returns
returns c = let l = c.loop-e in rw (take_all l.e-index c.args.entries.now c.loop-e-test.false) at l.invariant
