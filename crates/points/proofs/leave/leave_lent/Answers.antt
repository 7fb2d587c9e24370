-- `points::leave::leave_lent` meets its contract: one law for the refusal, one for the leaving. Assumes nothing.
use native.Mathlib.Omega.{arith}
use mathlib.Core.Path.{◌≡◌}
use Rattle.words.specs.Edition.{one}
use Rattle.points.specs.Record.{unfit, point_of}
use Rattle.block_log.proofs.Replies.{ok-none, err-number}
use Rattle.points.proofs.Leaves.{leave-refused, leave-done, joined_small}
use Rattle.points.proofs.RecordReasons.{fit-joined}
use Rattle.points.proofs.leave.leave_lent.Goals as goal
use Rattle.points.proofs.leave.leave_lent.Goals.{In_default}

none : (c : In_default) → let a = c.args in unfit one a.image.now a.shared a.head a.table.now ≡ 0
none c = ok-none c.unfit.ensures c.in_default.is

pub returns-in-Err : goal.returns-in-Err
returns-in-Err c = let a = c.args in
    λ text. leave-refused one a.image.now a.shared (point_of a.head a.table.now text) _ (err-number c.unfit.ensures c.in-Err.is)

pub without_point-requires : goal.without_point-requires
without_point-requires c = let a = c.args in
    joined_small a.shared.joined a.head.number (omega arith)
    (fit-joined one a.image.now a.shared a.head a.table.now (none (goal.at.without_point-requires c).In_default))

pub returns : goal.returns
returns c = let a = c.args in
    λ text. leave-done one a.image.now a.shared (point_of a.head a.table.now text)
    (none (goal.at.returns c).In_default) _ _ _ _ _ c.free_held.ensures c.with_taken-freed.ensures
    c.without_point.ensures c.with_joined-unjoined.ensures c.reporting.ensures
