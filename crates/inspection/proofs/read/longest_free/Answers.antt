use mathlib.Core.Path.{◌∙◌, sym}
use native.Mathlib.Omega.{arith}
use Rattle.inspection.proofs.Longest.{reach-start, reach-end, reach-taken, reach-free}
use Rattle.inspection.proofs.read.longest_free.Goals as goal
use Rattle.inspection.proofs.read.longest_free.Goals.{else-is_taken, then-is_taken}

pub loop-b-init : goal.loop-b-init
loop-b-init c = (reach-start c.args.map.now c.args.blocks, omega arith, omega arith, omega arith)

pub overflow_add-row : goal.overflow_add-row
overflow_add-row c = let l = c.loop-b in omega (arith, l.invariant.1, l.invariant.2, c.requires, c.loop-b-test.true)

pub loop-b-preserved : goal.loop-b-preserved
loop-b-preserved c = let l = c.loop-b in
    let a = c.args in
    let h = c.loop-b-test.true in
    let is = c.max-best.ensures in
    elim c.if-is_taken.branch [
      | then-is_taken w ↦ (
        l.invariant.0 ∙ reach-taken a.map.now a.blocks l.best l.row l.b l.invariant.1 h _ _ is (sym c.is_taken.ensures ∙ w.if-is_taken.true) w.row-is,
        omega (arith, is),
        omega (arith, is, w.row-is, l.invariant),
        omega (arith, h),
      )
      | else-is_taken w ↦ (
        l.invariant.0 ∙ reach-free a.map.now a.blocks l.best l.row l.b l.invariant.1 h _ _ is (sym c.is_taken.ensures ∙ w.if-is_taken.false) w.row-is,
        omega (arith, is),
        omega (arith, is, w.row-is, l.invariant),
        omega (arith, h),
      )
    ]

pub returns : goal.returns
returns c = let l = c.loop-b in
    let a = c.args in
    (sym (l.invariant.0 ∙ reach-end a.map.now a.blocks l.best l.row l.b l.invariant.1 c.loop-b-test.false), omega (arith, l.invariant))
