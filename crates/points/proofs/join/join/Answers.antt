-- `points::join::join` meets its contract: one law for the refusal, one for the joining. Assumes nothing.
use native.Mathlib.Omega.{arith}
use mathlib.Core.Path.{◌≡◌}
use Rattle.words.specs.Edition.{one}
use Rattle.points.specs.Calls.{join_refusal}
use Rattle.block_log.proofs.Replies.{ok-none, err-number}
use Rattle.points.proofs.Joins.{join-refused, join-done, join-small, join-inside}
use Rattle.points.proofs.join.join.Goals as goal
use Rattle.points.proofs.join.join.Goals.{In_default}

none : (c : In_default) → let a = c.args in join_refusal one a.image.now a.shared a.number ≡ 0
none c = ok-none c.join_refusal.ensures c.in_default.is

pub returns-in-Err : goal.returns-in-Err
returns-in-Err c = let a = c.args in
    join-refused one a.image.now a.shared a.number _ c.idle_at.result (err-number c.join_refusal.ensures c.in-Err.is) c.idle_at.ensures

pub overflow_cast-first : goal.overflow_cast-first
overflow_cast-first c = let a = c.args in
    record { fits = omega (arith, join-inside one a.image.now a.shared a.number (none (goal.at.overflow_cast-first c).In_default)) }

pub with_point-requires : goal.with_point-requires
with_point-requires c = let a = c.args in join-small one a.image.now a.shared a.number (none (goal.at.with_point-requires c).In_default)

pub returns : goal.returns
returns c = let a = c.args in
    join-done one a.image.now a.shared a.number (none (goal.at.returns c).In_default) _ _ _ _ _ c.with_point.ensures
    c.with_joined-joined.ensures c.first_index-first.ensures c.reporting.ensures c.idle_at-2.ensures
