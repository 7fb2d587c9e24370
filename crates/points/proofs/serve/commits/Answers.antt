-- `points::serve::commits`: each test that holds is a fact of it.
use borrow.Author.Tests.{not-false}
use Rattle.block_log.proofs.Walk.{never}
use Rattle.points.proofs.serve.commits.Goals as goal

pub returns-then-not-has_filled : goal.returns-then-not-has_filled
returns-then-not-has_filled c e = never e

pub returns-then-not-is_empty : goal.returns-then-not-is_empty
returns-then-not-is_empty c e = never e

pub returns : goal.returns
returns c e = let here = c.is_empty.ensures (not-false _ c.if-not-is_empty.false-raw) in
    record {
      ready = c.has_filled.ensures (not-false _ c.if-not-has_filled.false-raw);
      slot = here.0;
      empty = here.1;
      entry = c.is_enterable.ensures e;
    }
