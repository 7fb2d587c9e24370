-- `points::fill::next_in_last`: the first word with a copied byte from the second block on lies in the run, or none is pending any more.
use native.Mathlib.Omega.{arith}
use mathlib.Core.Path.{sym, ◌∙◌}
use Rattle.words.specs.Edition.{one}
use Rattle.points.proofs.NextWord.{First, last_found, last_done}
use Prim.Native.Nat.{max}
use Rattle.points.proofs.fill.next_in_last.Goals as goal

pub returns-then-k-words : goal.returns-then-k-words
returns-then-k-words c = let most = c.max in
    let a = c.args in
    let k = c.copied_from-k in
    let f : First one a.write (max a.write.position 64) k.result = rw most.ensures at k.ensures in
    sym (last_found one a.write k.result (omega arith) (omega arith) f (omega arith))

pub returns : goal.returns
returns c = let pre = c.requires in
    let most = c.max in
    let a = c.args in
    let k = c.copied_from-k in
    let f : First one a.write (max a.write.position 64) k.result = rw most.ensures at k.ensures in
    pre.4 ∙ sym (last_done one a.write k.result (omega arith) f (omega arith))
