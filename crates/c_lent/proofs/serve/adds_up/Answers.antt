use mathlib.Core.Path.{◌≡◌, sym}
use Prim.Native.Nat.{suc, ◌+◌}
use native.Mathlib.Omega.{arith}
use lib.ListN.{length}
use Rattle.c_lent.specs.Serving.{start_at}
use borrow.Author.Tests.{ne_eqb}
use Rattle.c_lent.proofs.Turns.{starts-up, none_left}
use Rattle.c_lent.proofs.serve.adds_up.Goals as goal

pub returns-then-left-size : goal.returns-then-left-size
returns-then-left-size c = let l = c.loop-write in
    let writes = c.args.writes.now in
    let up = starts-up writes l.write-index (length writes) (omega arith) in
    sym (ne_eqb (start_at writes (length writes)) _ (omega (arith, l.invariant)))

pub loop-write-preserved : goal.loop-write-preserved
loop-write-preserved c = let l = c.loop-write in
    let one : l.write-index + 1 ≡ suc l.write-index = omega arith in
    rw one (omega (arith, l.invariant))

pub returns : goal.returns
returns c = let l = c.loop-write in
    let writes = c.args.writes.now in
    let e : l.write-index ≡ length writes = omega arith in
    none_left l.left (start_at writes (length writes)) _ (rw e at l.invariant)
