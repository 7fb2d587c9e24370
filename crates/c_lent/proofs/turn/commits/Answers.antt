use Rattle.c_lent.proofs.Lean.{commits-done, commits-not}
use Rattle.c_lent.proofs.turn.commits.Goals as goal

pub head-requires : goal.head-requires
head-requires c = c.requires

pub returns-in_default : goal.returns-in_default
returns-in_default c = commits-not c.head.ensures c.commit_by_head-committed.ensures c.in_default.is

pub returns : goal.returns
returns c = commits-done c.head.ensures c.commit_by_head-committed.ensures c.in-Some.left c.in-Some.is _ c.of_head.ensures
