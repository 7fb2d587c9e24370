use Prim.Native.Nat.{◌+◌, ◌*◌}
use mathlib.Core.Path.{◌≡◌, ap, ◌∙◌, refl}
use native.Mathlib.Omega.{arith}
use lib.ListN.{length}
use lib.Seq.{sets}
use Rattle.words.specs.Memory.{byte_in}
use Rattle.points.proofs.Copied.{copied_none, copied_more, copied_all, word_bytes}
use Rattle.points.proofs.read.copy_words.Goals as goal

pub loop-k-init : goal.loop-k-init
loop-k-init c = let a = c.args in (refl, copied_none (byte_in a.part.now) a.buffer.now 0 0 (8 * length a.part.now))

pub loop-k-preserved : goal.loop-k-preserved
loop-k-preserved c = let a = c.args in
    let l = c.loop-k in
    let e : 8 * (l.k + 1) ≡ 8 * l.k + 8 = omega arith in
    let z : 0 + 8 * l.k ≡ 8 * l.k = omega arith in (
      l.invariant.0,
      rw e
          (copied_more (byte_in a.part.now) a.buffer.now 0 0 (8 * length a.part.now) l.buffer (8 * l.k) l.invariant.1 _ 8 (omega arith)
          (rw z (c.put_word.ensures ∙ ap (sets l.buffer (8 * l.k)) (word_bytes a.part.now l.k)))),
    )

pub shape_of-buffer : goal.shape_of-buffer
shape_of-buffer c = c.loop-k.invariant.1.same

pub returns : goal.returns
returns c = let a = c.args in
    let l = c.loop-k in
    copied_all (byte_in a.part.now) a.buffer.now 0 0 (8 * length a.part.now) l.buffer (8 * l.k) l.invariant.1 (omega arith)
