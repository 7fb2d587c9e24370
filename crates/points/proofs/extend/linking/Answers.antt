-- `points::extend::linking`: 20, or the link. Assumes nothing.
use mathlib.Core.Path.{sym, ◌∙◌}
use Rattle.words.specs.Edition.{one, chain_max}
use borrow.Author.Tests.{le-leb, lt-leb}
use Rattle.words.proofs.Choice.{choose-true, choose-false}
use Rattle.points.specs.Stepping.{give_up, link, linking}
use Rattle.points.proofs.extend.linking.Goals as goal

pub returns-then-chain-ge64 : goal.returns-then-chain-ge64
unfolding linking
returns-then-chain-ge64 c = let a = c.args in
    c.give_up.ensures ∙ sym (choose-true _ (give_up one a.head 20) (link one a.head) (le-leb chain_max a.chain c.if-chain-ge64.true))

pub returns : goal.returns
unfolding linking
returns c = let a = c.args in
    c.link.ensures ∙ sym (choose-false _ (give_up one a.head 20) (link one a.head) (lt-leb chain_max a.chain c.if-chain-ge64.false))
