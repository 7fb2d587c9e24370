use mathlib.Core.Path.{sym}
use native.Mathlib.Omega.{arith}
use borrow.Author.Tests.{ne_eqb}
use Rattle.dispatch.specs.Dispatch.{sizes_of}
use Rattle.dispatch.proofs.Lent.{sizes-next, sizes-none, as-tests}
use Rattle.dispatch.proofs.adds_up.Goals as goal

pub returns-then-left-size : goal.returns-then-left-size
returns-then-left-size c =
    let writes = c.args.writes.now in
    let e = sizes-next writes c.loop-write.write-index (omega arith) in
    sym (ne_eqb (sizes_of writes) _ (omega arith))

pub loop-write-preserved : goal.loop-write-preserved
loop-write-preserved c = let e = sizes-next c.args.writes.now c.loop-write.write-index (omega arith) in omega arith

pub returns : goal.returns
returns c =
    let writes = c.args.writes.now in
    let e = sizes-none writes c.loop-write.write-index (omega arith) in
    as-tests c.loop-write.left 0 (sizes_of writes) _ (λ z. omega arith) (λ z. omega arith)
