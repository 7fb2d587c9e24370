use Prim.Native.Nat.{◌+◌}
use mathlib.Core.Path.{ap, ◌∙◌}
use native.Mathlib.Omega.{arith}
use lib.ListN.{set}
use Rattle.words.specs.Memory.{byte_in}
use Rattle.words.proofs.Memory.{byte_at}
use Rattle.points.proofs.Copied.{copied_none, copied_more, copied_all}
use Rattle.points.proofs.read.copy_bytes.Goals as goal

pub loop-k-init : goal.loop-k-init
loop-k-init c = let a = c.args in copied_none (byte_in a.part.now) a.buffer.now a.at a.from a.n

pub loop-k-preserved : goal.loop-k-preserved
loop-k-preserved c = let a = c.args in
    let l = c.loop-k in
    let i = c.whole_words in
    let j = c.byte in
    let read = byte_at a.part.now (a.from + l.k) i.result j.result i.ensures j.ensures in
    copied_more (byte_in a.part.now) a.buffer.now a.at a.from a.n l.buffer l.k l.invariant _ 1 (omega arith)
    (ap (set l.buffer (a.at + l.k)) (c.byte-in-loop-k.ensures ∙ read))

pub shape_of-buffer : goal.shape_of-buffer
shape_of-buffer c = c.loop-k.invariant.same

pub returns : goal.returns
returns c = let a = c.args in
    let l = c.loop-k in
    copied_all (byte_in a.part.now) a.buffer.now a.at a.from a.n l.buffer l.k l.invariant (omega arith)
