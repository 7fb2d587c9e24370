-- The first index is 0, or an index of the chain is outside.
use mathlib.Core.Path.{sym, ◌∙◌}
use Rattle.words.specs.Edition.{one}
use Rattle.words.specs.Memory.{memory}
use Rattle.block_log.proofs.Chain.{index-none, index-some}
use Rattle.block_log.proofs.links.bad_index.Goals as goal

pub returns-then-first_index-eq0 : goal.returns-then-first_index-eq0
returns-then-first_index-eq0 c = let a = c.args in
    sym (index-none a.blocks (memory one a.image.now) (sym c.first_index.ensures ∙ c.if-first_index-eq0.true))

pub returns : goal.returns
returns c = let a = c.args in
    c.some_outside.ensures
    ∙ sym (index-some a.blocks (memory one a.image.now) (λ e. c.if-first_index-eq0.false (c.first_index.ensures ∙ e)))
