use mathlib.Core.Path.{sym, ◌∙◌}
use mathlib.Core.Logic.{inl, inr}
use Rattle.std.proofs.Common.{rules}
use native.Mathlib.Omega.{arith}
use Rattle.dispatch.proofs.Reasons.{is-lent, not-each, not-one-each, listed-again, served}
use Rattle.dispatch.proofs.serve.Goals as goal
use Rattle.dispatch.proofs.serve.Goals.{then-n-lt1-via-then-n-lt1, then-n-lt1-via-else-n-lt1+then-n-gt32, then-n-lt1-via-else-n-lt1+else-n-gt32+then-not-lent_for_each}

pub returns-then-n-lt1 : goal.returns-then-n-lt1
returns-then-n-lt1 c =
    elim c.then-n-lt1.branch [
      | then-n-lt1-via-then-n-lt1 w ↦ not-one-each _ _ _ _ _ _ (inl w.if-n-lt1.true)
      | then-n-lt1-via-else-n-lt1+then-n-gt32 w ↦ not-one-each _ _ _ _ _ _ (inr w.if-n-gt32.true)
      | then-n-lt1-via-else-n-lt1+else-n-gt32+then-not-lent_for_each w ↦ not-each _ _ _ _ _ _ (search rules)
    ]

pub returns-then-listed_twice : goal.returns-then-listed_twice
returns-then-listed_twice c =
    listed-again _ _ _ _ _ _ c.if-n-lt1.false c.if-n-gt32.false (search rules) (sym c.listed_twice.ensures ∙ c.if-listed_twice.true)

pub begin_all-begun-requires : goal.begin_all-begun-requires
begin_all-begun-requires c = is-lent _ _ _ _ (search rules)

pub all_rounds-requires : goal.all_rounds-requires
all_rounds-requires c = let h = is-lent c.args.points.now c.args.answers.now c.args.writes.now c.args.bytes.now (search rules) in let e = h.answers_are in omega arith

pub returns : goal.returns
returns c =
    let b = c.begin_all-begun.ensures in
    served _ _ _ _ _ _ c.if-n-lt1.false c.if-n-gt32.false (search rules) (sym c.listed_twice.ensures ∙ c.if-listed_twice.false) _ _ _ _ _ _
    b.common_is (c.most_rounds.ensures c.if-n-lt1.false c.if-n-gt32.false) (c.all_rounds.ensures _ b.shows)
