-- `points::fill::next_in_both`: the first word with a copied byte lies in the first block, or what is left is the last block's.
use native.Mathlib.Omega.{arith}
use mathlib.Core.Path.{sym, ◌∙◌}
use Rattle.words.specs.Edition.{one}
use Rattle.points.proofs.NextWord.{both_found, both-last}
use Rattle.points.proofs.fill.next_in_both.Goals as goal

pub returns-then-k-lt64 : goal.returns-then-k-lt64
returns-then-k-lt64 c = let a = c.args in
    let k = c.copied_from-k in
    sym (both_found one a.write k.result (omega arith) k.ensures c.if-k-lt64.true)

pub returns : goal.returns
returns c = let a = c.args in
    let k = c.copied_from-k in
    c.next_in_last.ensures ∙ both-last one a.write k.result (omega arith) k.ensures c.if-k-lt64.false
