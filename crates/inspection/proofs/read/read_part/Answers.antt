use mathlib.Core.Path.{sym, ◌∙◌}
use native.Mathlib.Omega.{arith}
use lib.ListN.{length-drop}
use Rattle.inspection.proofs.Legal.{part-begin, part-again, part-full, part-stopped, slots-are}
use Rattle.inspection.proofs.read.read_part.Goals as goal

pub loop-i-init : goal.loop-i-init
loop-i-init c = let a = c.args in part-begin a.part.now a.blocks a.entries.now a.n

pub returns-then-not-is_legal : goal.returns-then-not-is_legal
returns-then-not-is_legal c = let e = slots-are c.args.part.now in
    part-stopped c.loop-i.invariant (rw e at c.loop-i-test.true) (sym (rw e at c.is_legal.ensures) ∙ c.if-not-is_legal.true)

pub loop-i-preserved : goal.loop-i-preserved
loop-i-preserved c = let e = slots-are c.args.part.now in
    rw e (part-again c.loop-i.invariant (rw e at c.loop-i-test.true) (sym (rw e at c.is_legal.ensures) ∙ c.if-not-is_legal.false)
    (omega (arith, c.told-entries, c.requires, length-drop 2 c.args.part.now)))

pub returns : goal.returns
returns c = let l = c.loop-i in
    let e = slots-are c.args.part.now in
    let s = length-drop 2 c.args.part.now in
    let top = rw e at l.auto.i-end in
    let low = rw e at c.loop-i-test.false in
    part-full l.invariant _ (omega (arith, c.requires.0, s, top, low)) low
