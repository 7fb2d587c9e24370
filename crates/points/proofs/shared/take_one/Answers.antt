-- `points::shared::take_one`: 0 stands for no block.
use mathlib.Core.Path.{sym, ◌∙◌}
use mathlib.Core.List.{[]}
use Rattle.words.specs.BlockMap.{set_all}
use Rattle.words.proofs.BlockMap.{set_all-next}
use Rattle.points.proofs.shared.take_one.Goals as goal

pub returns-then-b-ne0 : goal.returns-then-b-ne0
unfolding set_all
returns-then-b-ne0 c = let a = c.args in
    c.set_block.ensures ∙ sym (set_all-next a.taken.now a.b [] c.if-b-ne0.true)

pub returns-else-b-ne0 : goal.returns-else-b-ne0
unfolding set_all
returns-else-b-ne0 c = rw c.if-b-ne0.false
