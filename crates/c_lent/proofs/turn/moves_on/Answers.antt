use mathlib.Core.Path.{refl}
use borrow.Author.Rules.{rules}
use Rattle.c_lent.proofs.Lean.{moves-done, moves_not}
use Rattle.c_lent.proofs.turn.moves_on.Goals as goal

pub head-requires : goal.head-requires
head-requires c = c.requires

pub returns-in_default : goal.returns-in_default
returns-in_default c = moves_not c.head.ensures refl c.move_by_one-moved.ensures c.in_default.is

pub put_reported-requires : goal.put_reported-requires
put_reported-requires c = (search rules, tt)

pub returns : goal.returns
returns c = moves-done c.head.ensures refl c.move_by_one-moved.ensures c.in-Some.left c.in-Some.is _ _ c.put_reported.ensures c.of_head.ensures
