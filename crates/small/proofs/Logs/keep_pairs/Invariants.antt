-- One first entry after the other.
use mathlib.Core.Path.{◌≡◌}
use Rattle.small.specs.Tried.{one_more, pairs}
use Rattle.small.specs.Parts.{log_of, keep_all}
use Rattle.small.proofs.Slice.{filled, logs_from}
use Rattle.small.proofs.Logs.keep_pairs.Given as goal

abbrev pub invariant-loop-k : goal.invariant-loop-k
invariant-loop-k l =
    (l.self.out.ghost_name ≡ l.initial.self.out.ghost_name)
    × (keep_all (filled l.initial.self.out.now l.initial.self.count) pairs ≡ keep_all (filled l.self.out.now l.self.count) (logs_from (λ e. one_more (log_of e)) l.k))
