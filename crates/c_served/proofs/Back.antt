-- Nothing is lost in numbers: what is read back from those of an answer or a record is that answer, that record. Assumes nothing.
use mathlib.Core.Path.{◌≡◌, refl}
use mathlib.Core.Bool.{true}
use Rattle.block_log.specs.declared.Shared.{Shared}
use Rattle.points.specs.declared.StepAnswer.{StepAnswer}
use Rattle.points.specs.declared.StepAnswer.TheVariants.{Stored, Moved, Extending, Committed, Refused, Copied, Bytes}
use Rattle.points.specs.declared.Point.{Point}
use Rattle.points.specs.Stepping.{step_kind, step_value}
use Rattle.block_log.proofs.Replies.{refusal-again}
use Rattle.c_lent.specs.Numbers.{shared_in, lend_shared, point_in, lend_point}
use Rattle.c_lent.proofs.Heads.{head-back}
use Rattle.c_served.specs.Served.{is_answer, answer_of}

pub is-answer : (a : StepAnswer) → is_answer (step_kind a) ≡ true
is-answer Stored = refl
is-answer Moved = refl
is-answer Extending = refl
is-answer (Committed retries) = refl
is-answer (Refused n) = refl
is-answer Copied = refl
is-answer (Bytes n) = refl

pub answer_back : (a : StepAnswer) → answer_of (step_kind a) (step_value a) ≡ a
answer_back Stored = refl
answer_back Moved = refl
answer_back Extending = refl
answer_back (Committed retries) = refl
answer_back (Refused e) = rw (refusal-again e)
answer_back Copied = refl
answer_back (Bytes n) = refl

pub shared_back : (s : Shared) → shared_in (lend_shared s) ≡ s
shared_back s = refl

pub point-back : (p : Point) → point_in (lend_point p) ≡ p
point-back p = rw (head-back p.head)
