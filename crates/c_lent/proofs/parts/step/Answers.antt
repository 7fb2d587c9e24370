-- `c_lent::parts::step`: refused where the record's numbers are none, else as the call answers. Assumes nothing.
use mathlib.Core.Path.{sym, ap, ◌∙◌}
use Rattle.block_log.specs.declared.Refusal.{Refusal}
use Rattle.block_log.proofs.Replies.{refusal-again}
use Rattle.points.specs.declared.StepAnswer.TheVariants.{Refused}
use Rattle.c_lent.specs.declared.Answer.{Answer}
use Rattle.c_lent.specs.Calls.{step_left}
use Rattle.c_lent.specs.Numbers.{answer_numbers, shared_lent, point_lent}
use Rattle.c_lent.proofs.Calls.{tests-none, tests-known, is_none, step-known}
use borrow.Author.Rules.{rules}
use Rattle.c_lent.proofs.parts.step.Goals as goal

pub returns-then-not-is_known : goal.returns-then-not-is_known
returns-then-not-is_known c = let a = c.args in
    let s = shared_lent a.shared.now a.taken.now in
    let p = point_lent a.head.now a.table.now a.text.now in
    rw c.from.ensures
    (ap (λ (x : Refusal). step_left (answer_numbers (Refused x) 0) a.image.now s p a.bytes.now) (sym (refusal-again c.unknown.result))
    ∙ is_none a.image.now s p _ _ (tests-none c.is_known.ensures c.if-not-is_known.true-raw) _ (c.unknown.ensures a.taken.now))

pub head-requires : goal.head-requires
head-requires c = tests-known c.is_known.ensures c.if-not-is_known.false-raw

pub put_reported-requires : goal.put_reported-requires
put_reported-requires c = (search rules, rw c.lead-lead.ensures at c.step_lent-stepped.ensures.1)

pub returns : goal.returns
returns c = let a = c.args in
    let y = c.step_lent-stepped in
    step-known a.image.now (shared_lent a.shared.now a.taken.now) (point_lent a.head.now a.table.now a.text.now)
    (tests-known c.is_known.ensures c.if-not-is_known.false-raw) _ c.head.ensures _ c.lead-lead.ensures a.bytes.now
    y.result y.new.taken y.new.table y.new.text _ y.new.bytes y.ensures.0
    _ (ap (λ (x : Answer). record { kind = x.kind; value = x.value; word = y.result.word }) c.from-answer.ensures) _ c.of_head.ensures _ c.put_reported.ensures
