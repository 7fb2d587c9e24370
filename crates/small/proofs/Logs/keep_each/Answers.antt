use native.Mathlib.Omega.{arith}
use mathlib.Core.Path.{refl, sym, ap, ◌∙◌}
use Rattle.small.specs.Tried.{one_more}
use Rattle.small.specs.Parts.{log_of, keep_all}
use Rattle.small.proofs.Slice.{filled, longer, each-longer, next-entry, no-entry-left}
use Rattle.small.proofs.Logs.keep_each.Goals as goal

pub loop-k-init : goal.loop-k-init
loop-k-init c = let a = c.args in (refl, ap (keep_all (filled a.self.now.out.now a.self.now.count)) (each-longer (log_of a.first)))

pub loop-k-preserved : goal.loop-k-preserved
loop-k-preserved c = let l = c.loop-k in
    let a = c.args in
    let es = log_of a.first in (
      c.keep_longer.ensures.same_slice ∙ l.invariant.0,
      next-entry (longer es) (keep_all (filled a.self.now.out.now a.self.now.count) (one_more es)) l.self.out.now l.self.count c.keep_longer.new.self.out.now c.keep_longer.new.self.count
          l.k c.legal_entry.result (omega arith) c.legal_entry.ensures c.keep_longer.ensures.kept l.invariant.1,
    )

pub returns-clause-kept : goal.returns-clause-kept
returns-clause-kept c = let l = c.loop-k in
    let a = c.args in
    let es = log_of a.first in
    (sym (no-entry-left (longer es) (keep_all (filled a.self.now.out.now a.self.now.count) (one_more es)) l.self.out.now l.self.count l.k (omega arith) l.invariant.1), l.self.room)
