-- `points::serve::move_by_one`: nothing is done, or the entry is taken in.
use native.Mathlib.Omega.{arith}
use Rattle.words.specs.Edition.{one}
use Rattle.words.specs.Memory.{memory}
use Rattle.points.specs.Batch.{Passes}
use Rattle.block_log.proofs.Entry.{legal-mappable}
use Rattle.points.proofs.Passing.{moves-by-one, stays}
use Rattle.points.proofs.serve.move_by_one.Goals as goal
use Rattle.points.proofs.serve.move_by_one.Goals.{In_ok-e}

-- the entry that is ahead
passes : (c : In_ok-e) → let a = c.args in Passes one (memory one a.image.now) a.blocks a.head c.in_ok-e.e
passes c = c.entry_alone.ensures c.in_ok-e.e c.in_ok-e.was

pub returns-in_err-e : goal.returns-in_err-e
returns-in_err-e c = let a = c.args in rw c.from_residual.ensures (stays a.image.now a.blocks a.head a.table.now)

pub passing-requires : goal.passing-requires
passing-requires c = let x = passes (goal.at.passing-requires c).In_ok-e in
    (x.ready.filled, omega (arith, x.alone.slot))

pub returns : goal.returns
returns c = let a = c.args in
    let x = passes (goal.at.returns c).In_ok-e in
    moves-by-one a.image.now a.blocks a.head c.passing.result a.table.now c.take_entry-length.new.table c.in_ok-e.e
    c.take_entry-length.result x (c.take_entry-length.ensures.mappable (legal-mappable a.blocks c.in_ok-e.e x.aside.few x.aside.legal)) c.passing.ensures
