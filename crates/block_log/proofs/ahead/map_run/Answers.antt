use mathlib.Core.Path.{◌≡◌, sym, ◌∙◌}
use Prim.Native.Nat.{◌+◌, ◌-◌}
use native.Mathlib.Omega.{arith}
use Rattle.block_log.proofs.Replay.{map_run-next, map_run-none}
use Rattle.block_log.proofs.ahead.map_run.Goals as goal

pub loop-i-preserved : goal.loop-i-preserved
loop-i-preserved c = let a = c.args in
    let l = c.loop-i in
    let v : a.v + (l.i + 1) ≡ a.v + l.i + 1 = omega arith in
    let b : a.b + (l.i + 1) ≡ a.b + l.i + 1 = omega arith in
    let n : a.n - (l.i + 1) ≡ a.n - l.i - 1 = omega arith in
    rw (v, b, n) (l.invariant ∙ map_run-next l.table (a.v + l.i) (a.b + l.i) (a.n - l.i) (omega arith))

pub returns : goal.returns
returns c = let a = c.args in
    let l = c.loop-i in
    sym (l.invariant ∙ map_run-none l.table (a.v + l.i) (a.b + l.i) (a.n - l.i) (omega arith))
