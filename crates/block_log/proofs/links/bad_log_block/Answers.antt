-- Word 1, what stands behind the tail, and a next index though not full.
use mathlib.Core.Path.{sym, ◌∙◌}
use borrow.Author.Tests.{not-true, not-false}
use Rattle.block_log.proofs.Chain.{block-word, block-dirty, block_last, block-linked}
use Rattle.block_log.proofs.links.bad_log_block.Goals as goal

pub returns-then-word-ne0 : goal.returns-then-word-ne0
returns-then-word-ne0 c = let a = c.args in
    let w = c.word in
    sym (block-word a.part.now (λ e. c.if-word-ne0.true (w.ensures ∙ e)))

pub returns-then-not-zeros_from : goal.returns-then-not-zeros_from
returns-then-not-zeros_from c = let a = c.args in
    let w = c.word in
    let t = c.tail-end in
    let z = c.zeros_from in
    sym (block-dirty a.part.now (sym w.ensures ∙ c.if-word-ne0.false) t.result t.ensures
    (sym z.ensures ∙ not-true _ c.if-not-zeros_from.true-raw))

pub returns-then-word-eq0 : goal.returns-then-word-eq0
returns-then-word-eq0 c = let n = c.word-2 in
    sym (block_last c.args.part.now (sym c.word.ensures ∙ c.if-word-ne0.false) c.tail-end.result c.tail-end.ensures
    (sym c.zeros_from.ensures ∙ not-false _ c.if-not-zeros_from.false-raw) (sym n.ensures ∙ c.if-word-eq0.true))

pub returns : goal.returns
returns c = let n = c.word-2 in
    sym (block-linked c.args.part.now (sym c.word.ensures ∙ c.if-word-ne0.false) c.tail-end.result c.tail-end.ensures
    (sym c.zeros_from.ensures ∙ not-false _ c.if-not-zeros_from.false-raw) (λ e. c.if-word-eq0.false (n.ensures ∙ e)))
