-- The entry alone, or behind the first.
use Rattle.small.proofs.Slice.{longer-empty}
use Rattle.small.proofs.Logs.keep_longer.Goals as goal

pub returns-then-first-eq0-clause-kept : goal.returns-then-first-eq0-clause-kept
returns-then-first-eq0-clause-kept c = let a = c.args in
    longer-empty a.self.now.out.now a.self.now.count c.keep.new.self.out.now c.keep.new.self.count a.e a.first c.if-first-eq0.true c.keep.ensures.kept
