-- `points::read_step::finish` meets its contract: a law for each exit. Assumes nothing.
use Rattle.std.proofs.Common.{arith}
use Rattle.words.specs.Edition.{one}
use Rattle.words.specs.Memory.{memory}
use Rattle.points.proofs.ReadEnds.{finish-stops, finish-again, finish-bytes}
use Rattle.points.proofs.read_step.finish.Goals as goal

pub returns-then-seen : goal.returns-then-seen
returns-then-seen c = let a = c.args in
    finish-stops one (memory one a.image.now) a.numbers a.head a.table.now a.text.now a.bytes.now c.look-seen.result
    c.look-seen.ensures c.if-seen.true

pub returns-then-seen-lengthened : goal.returns-then-seen-lengthened
returns-then-seen-lengthened c = let a = c.args in
    let sound = c.if-seen.false in
    finish-again one (memory one a.image.now) a.numbers a.head a.table.now a.text.now a.bytes.now c.look-seen.result
    c.look-seen.ensures _ _ _ c.requires.1 sound c.catch_up-length.ensures c.lengthened.ensures c.if-seen-lengthened.true _ _
    (rw c.new_read-again.ensures at c.head_of.ensures) c.no_text.ensures

pub returns : goal.returns
returns c = let a = c.args in
    let sound = c.if-seen.false in
    finish-bytes one (memory one a.image.now) a.numbers a.head a.table.now a.text.now a.bytes.now c.look-seen.result
    c.look-seen.ensures _ _ _ c.requires.1 sound c.catch_up-length.ensures c.lengthened.ensures c.if-seen-lengthened.false _ _ _
    (rw c.no_write-idle.ensures at c.head_of-2.ensures) c.no_text-2.ensures
    (omega arith) c.hand_over.ensures
