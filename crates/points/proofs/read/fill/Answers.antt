use Prim.Native.Nat.{◌+◌}
use native.Mathlib.Omega.{arith}
use mathlib.Core.Path.{◌≡◌, ap, ◌∙◌}
use lib.Seq.{sets}
use Rattle.words.specs.Edition.{one}
use Rattle.words.specs.Memory.{memory}
use Rattle.block_log.specs.Replay.{Mapped}
use Rattle.points.proofs.Copied.{copied_none, copied_more, copied_all}
use Rattle.points.proofs.FilePieces.{file-piece}
use Rattle.points.proofs.read.fill.Invariants.{byte_from}
use Rattle.points.proofs.read.fill.Goals as goal

pub loop-done-init : goal.loop-done-init
loop-done-init c = let a = c.args in copied_none (byte_from a.image.now a.table.now) a.buffer.now 0 a.offset a.n

pub copy_block-requires : goal.copy_block-requires
copy_block-requires c = (omega arith, omega arith)

pub loop-done-preserved : goal.loop-done-preserved
loop-done-preserved c = let a = c.args in
    let l = c.loop-done in
    let n = c.min-count.result in
    let p = a.offset + l.done in
    let f : Mapped = record { table = a.table.now; size = 0 } in
    let z : 0 + l.done ≡ l.done = omega arith in
    let from = c.in_block-from in
    let block = c.block in
    let piece = file-piece one (memory one a.image.now) f p n block.result from.result _ block.ensures from.ensures (c.from-b.ensures ∙ c.mapped.ensures)
    (omega arith) in
    copied_more (byte_from a.image.now a.table.now) a.buffer.now 0 a.offset a.n l.buffer l.done l.invariant _ n (omega arith)
    (rw z (c.copy_block.ensures ∙ ap (sets l.buffer l.done) piece))

pub shape_of-buffer : goal.shape_of-buffer
shape_of-buffer c = c.loop-done.invariant.same

pub returns : goal.returns
returns c = let a = c.args in
    let l = c.loop-done in
    copied_all (byte_from a.image.now a.table.now) a.buffer.now 0 a.offset a.n l.buffer l.done l.invariant (omega arith)
