-- `points::fill::next_in_first`: the first word with a copied byte lies in the first block, or none of the block is pending any more.
use native.Mathlib.Omega.{arith}
use mathlib.Core.Path.{sym, ◌∙◌}
use Rattle.words.specs.Edition.{one}
use Rattle.points.proofs.NextWord.{first_found, first_done}
use Rattle.points.proofs.fill.next_in_first.Goals as goal

pub returns-then-k-lt64 : goal.returns-then-k-lt64
returns-then-k-lt64 c = let a = c.args in
    let k = c.copied_from-k in
    sym (first_found one a.write k.result (omega arith) k.ensures c.if-k-lt64.true)

pub returns : goal.returns
returns c = let pre = c.requires in
    let a = c.args in
    let k = c.copied_from-k in
    pre.4 ∙ sym (first_done one a.write k.result (omega arith) k.ensures c.if-k-lt64.false)
