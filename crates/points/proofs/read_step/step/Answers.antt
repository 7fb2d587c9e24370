-- `points::read_step::step` meets its contract: a law for each exit. Assumes nothing.
use native.Mathlib.Omega.{arith}
use Rattle.points.proofs.ReadEnds.{ReadFits, read_fits, step-refused, step-copies, step-finishes}
use Rattle.points.proofs.read_step.step.Goals as goal
use Rattle.points.proofs.read_step.step.Goals.{In_default}

-- what is known there
known : (c : In_default) → let a = c.args in
    ReadFits a.numbers a.head.write
known c =
    let a = c.args in
    let u = c.unfit_numbers in
    read_fits a.image.now a.numbers a.head a.table.now c.requires u.result u.ensures c.in_default.is

pub returns-in-Err : goal.returns-in-Err
returns-in-Err c = let a = c.args in
    let u = c.unfit_numbers in
    step-refused a.image.now a.numbers a.head a.table.now c.requires u.result u.ensures a.text.now a.bytes.now _ c.in-Err.is

pub copy_word-requires : goal.copy_word-requires
copy_word-requires c = ((known (goal.at.copy_word-requires c).In_default).text, omega arith)

pub returns-then-write-range_words : goal.returns-then-write-range_words
returns-then-write-range_words c = let a = c.args in
    let u = c.unfit_numbers in
    step-copies a.image.now a.numbers a.head a.table.now c.requires u.result u.ensures c.in_default.is a.text.now a.bytes.now _ _
    (omega arith) (rw c.copied_on-more.ensures at c.head_of.ensures) c.copy_word.ensures

pub finish-requires : goal.finish-requires
finish-requires c = let k = known (goal.at.finish-requires c).In_default in (k.text, k.blocks)

pub returns : goal.returns
returns c = let a = c.args in
    let u = c.unfit_numbers in
    step-finishes a.image.now a.numbers a.head a.table.now c.requires u.result u.ensures c.in_default.is a.text.now a.bytes.now
    (omega arith) c.finish.ensures
