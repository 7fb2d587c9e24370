-- The tests of the code are those of the definition.
use mathlib.Core.Path.{sym}
use Rattle.words.specs.Search.{shorter}
use Rattle.words.proofs.Choice.{choose-true, choose-false}
use Rattle.words.proofs.map.shorter.Goals as goal

pub returns-then-n-s : goal.returns-then-n-s
unfolding shorter
returns-then-n-s c = sym (choose-true _ _ _ c.if-n-s.true)

pub returns : goal.returns
unfolding shorter
returns c = sym (choose-false _ _ _ c.if-n-s.false)
