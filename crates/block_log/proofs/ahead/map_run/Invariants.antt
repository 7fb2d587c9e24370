-- What is left of the run, mapped on the table as it is now, is all of it mapped on the table as it came.
use mathlib.Core.Path.{◌≡◌}
use Prim.Native.Nat.{◌+◌, ◌-◌}
use Rattle.block_log.specs.Replay.{map_run}
use Rattle.block_log.proofs.ahead.map_run.Given as goal

abbrev pub invariant-loop-i : goal.invariant-loop-i
invariant-loop-i l = map_run l.initial.table l.v l.b l.n ≡ map_run l.table (l.v + l.i) (l.b + l.i) (l.n - l.i)
