-- What is found from block 1 on is what is found from here on, with the best stretch so far; inside, all blocks from the start on are free.
use mathlib.Core.Path.{◌≡◌}
use mathlib.Core.Bool.{false}
use Prim.Native.Nat.{◌+◌, ◌-◌, ◌*◌, ◌≤◌, ◌<◌}
use Rattle.words.specs.Look.{Resumes}
use Rattle.words.specs.Search.{found}
use Rattle.words.proofs.Looks.{Same}
use Rattle.words.proofs.Stretches.{found_from}
use Rattle.words.proofs.map.best_start.Given as goal

abbrev pub invariant-loop-k : goal.invariant-loop-k
invariant-loop-k l = (l.best ≡ l.initial.best) × (l.s ≡ l.initial.s) × (l.low < 64) × (l.start ≤ 64 * l.k + l.low) × Same l.map false l.start (64 * l.k + l.low)

abbrev pub invariant-starts : goal.invariant-starts
invariant-starts l = (1 ≤ l.s) × (l.s < l.blocks → Resumes l.map l.s) × (found l.map l.blocks l.n ≡ (found_from l.map l.blocks l.n l.best l.s).start)

abbrev pub decreases-starts : goal.decreases-starts
decreases-starts l = l.blocks - l.s
