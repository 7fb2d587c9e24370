-- `points::step::write_lent`: what the plan asks for, the plan of a write's step has; map, table, text and image are left as the plan says.
use mathlib.Core.Path.{sym, ap, subst, ◌∙◌}
use Prim.Native.Nat.{◌<◌, ◌^◌}
use native.Mathlib.Omega.{arith}
use Rattle.words.specs.Edition.{one}
use Rattle.words.specs.Memory.{memory, after}
use Rattle.points.specs.declared.plan.Plan.{Plan}
use Rattle.points.specs.Record.{point_of}
use Rattle.points.specs.Search.{shared_of}
use Rattle.points.specs.Plan.{Outcome, answered, stored_at, carried_out}
use Rattle.points.proofs.Fits.{any_reports, any-known}
use Rattle.points.proofs.Planned.{Sound, planned-sound, carried-out}
use Rattle.points.proofs.ReadCases.{write-kind}
use Rattle.points.proofs.step.write_lent.Goals as goal
use Rattle.points.proofs.step.write_lent.Goals.{After-settle-plan, Start}

few-joined : (c : Start) → c.args.numbers.joined < 2 ^ 32
few-joined c = omega arith

-- what the plan asks for
sound : (c : After-settle-plan)
    → let a = c.args in
    Sound one (memory one a.image.now) (shared_of a.numbers a.taken.now (any_reports a.numbers)) a.head c.settle-plan.result
sound c =
    let a = c.args in
    let some = any_reports a.numbers in
    subst (Sound one (memory one a.image.now) (shared_of a.numbers a.taken.now some) a.head) (sym (c.settle-plan.ensures some (any-known a.numbers)))
    (planned-sound one a.image.now (shared_of a.numbers a.taken.now some) (point_of a.head a.table.now a.text.now) (omega arith)
    c.requires)

pub settle-plan-requires : goal.settle-plan-requires
settle-plan-requires c = c.requires

pub release-requires : goal.release-requires
release-requires c = (sound (goal.at.release-requires c).After-settle-plan).frees

pub read_in-length-requires : goal.read_in-length-requires
read_in-length-requires c = (sound (goal.at.read_in-length-requires c).After-settle-plan).reads

pub returns : goal.returns
unfolding carried_out
returns c = let a = c.args in
    let p = point_of a.head a.table.now a.text.now in
    let m = memory one a.image.now in
    let put = c.store-word in (
      λ reports known.
          let s = shared_of a.numbers a.taken.now reports in
          let e = c.settle-plan.ensures reports known in
          let kind = write-kind one a.image.now s p c.requires in
          record {
            answers = carried-out one m a.numbers a.taken.now reports c.settle-plan.result p c.head_of-left.result c.release.new.taken
                c.take_one.new.taken c.read_in-length.new.table c.keep_text.new.text
                c.read_in-length.result put.result c.release.ensures c.take_one.ensures c.read_in-length.ensures
                c.keep_text.ensures c.head_of-left.ensures
                ∙ ap (λ (x : Plan). answered (carried_out one m s p x)) e ∙ sym (ap answered kind);
            stored = put.ensures.stored ∙ ap (λ (x : Plan). after one a.image.now (carried_out one m s p x).store) e
                ∙ sym (ap (λ (o : Outcome). after one a.image.now o.store) kind);
            silent = ap (λ (o : Outcome). o.bytes) kind;
            place = put.ensures.place ∙ ap (λ (x : Plan). stored_at one (carried_out one m s p x).store) e
                ∙ sym (ap (λ (o : Outcome). stored_at one o.store) kind);
          },
      (sound (goal.at.returns c).After-settle-plan).links,
    )
