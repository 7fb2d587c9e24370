use native.Mathlib.Omega.{arith}
use mathlib.Core.Path.{refl, sym, ap, ◌∙◌}
use Rattle.small.specs.Tried.{one_more, pairs}
use Rattle.small.specs.Parts.{log_of, keep_all}
use Rattle.small.proofs.Slice.{filled, each-pair, next-entry, no-entry-left}
use Rattle.small.proofs.Logs.keep_pairs.Goals as goal

pub loop-k-init : goal.loop-k-init
loop-k-init c = let a = c.args in (refl, ap (keep_all (filled a.self.now.out.now a.self.now.count)) each-pair)

pub loop-k-preserved : goal.loop-k-preserved
loop-k-preserved c = let l = c.loop-k in
    let a = c.args in (
      c.keep_each.ensures.same_slice ∙ l.invariant.0,
      next-entry (λ c. one_more (log_of c)) (keep_all (filled a.self.now.out.now a.self.now.count) pairs) l.self.out.now l.self.count c.keep_each.new.self.out.now
          c.keep_each.new.self.count l.k c.legal_entry.result (omega arith) c.legal_entry.ensures c.keep_each.ensures.kept l.invariant.1,
    )

pub returns-clause-kept : goal.returns-clause-kept
returns-clause-kept c = let l = c.loop-k in
    let a = c.args in (
      sym (no-entry-left (λ e. one_more (log_of e)) (keep_all (filled a.self.now.out.now a.self.now.count) pairs) l.self.out.now l.self.count l.k (omega arith)
          l.invariant.1),
      l.self.room,
    )
