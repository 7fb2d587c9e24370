-- `points::join::join_refusal` meets its contract: each reason is asked where the ones before it failed. Assumes nothing.
use mathlib.Core.Path.{◌≡◌, sym, ◌∙◌}
use mathlib.Core.Bool.{false}
use lib.Dec.{ltb}
use borrow.Author.Tests.{lt-ltb, le-ltb}
use Rattle.words.specs.Edition.{one}
use Rattle.points.specs.Record.{bad_shared, is_joined}
use Rattle.points.specs.Calls.{join_refusal}
use Rattle.points.proofs.join.join_refusal.Goals as goal
use Rattle.points.proofs.join.join_refusal.Goals.{Else-bad_shared, Else-is_joined, Else-number-gt31}

not-10 : (c : Else-bad_shared) → let a = c.args in bad_shared one a.image.now a.shared ≡ false
not-10 c = sym c.bad_shared.ensures ∙ c.if-bad_shared.false

not-12 : (c : Else-number-gt31) → ltb 31 c.args.number ≡ false
not-12 c = le-ltb _ _ c.if-number-gt31.false

not-13 : (c : Else-is_joined) → let a = c.args in is_joined a.shared a.number ≡ false
not-13 c = sym c.is_joined.ensures ∙ c.if-is_joined.false

pub returns-then-bad_shared : goal.returns-then-bad_shared
unfolding join_refusal
returns-then-bad_shared c = rw (sym c.bad_shared.ensures ∙ c.if-bad_shared.true)

pub returns-then-number-gt31 : goal.returns-then-number-gt31
unfolding join_refusal
returns-then-number-gt31 c = rw (not-10 (goal.at.returns-then-number-gt31 c).Else-bad_shared, lt-ltb 31 _ c.if-number-gt31.true)

pub returns-then-is_joined : goal.returns-then-is_joined
unfolding join_refusal
returns-then-is_joined c = rw (not-10 (goal.at.returns-then-is_joined c).Else-bad_shared, not-12 (goal.at.returns-then-is_joined c).Else-number-gt31, sym c.is_joined.ensures ∙ c.if-is_joined.true)

pub returns-then-bad_first : goal.returns-then-bad_first
unfolding join_refusal
returns-then-bad_first c = rw (
  not-10 (goal.at.returns-then-bad_first c).Else-bad_shared,
  not-12 (goal.at.returns-then-bad_first c).Else-number-gt31,
  not-13 (goal.at.returns-then-bad_first c).Else-is_joined,
  sym c.bad_first.ensures ∙ c.if-bad_first.true,
)

pub returns : goal.returns
unfolding join_refusal
returns c = rw (
  not-10 (goal.at.returns c).Else-bad_shared,
  not-12 (goal.at.returns c).Else-number-gt31,
  not-13 (goal.at.returns c).Else-is_joined,
  sym c.bad_first.ensures ∙ c.if-bad_first.false,
)
