use mathlib.Core.Path.{sym, ◌∙◌}
use borrow.Author.Tests.{not-true, not-false}
use Rattle.c_lent.proofs.ServeReasons.{not-each, not-whole, two-same, no_reason}
use Rattle.c_lent.proofs.serve.reason.Goals as goal

pub returns-then-not-one_for_each : goal.returns-then-not-one_for_each
returns-then-not-one_for_each c = let a = c.args in
    not-each a.heads.now a.tables a.texts a.writes.now a.answers a.bytes (sym c.one_for_each.ensures ∙ not-true _ c.if-not-one_for_each.true-raw)

pub returns-then-not-adds_up : goal.returns-then-not-adds_up
returns-then-not-adds_up c = let a = c.args in
    not-whole a.heads.now a.tables a.texts a.writes.now a.answers a.bytes (sym c.one_for_each.ensures ∙ not-false _ c.if-not-one_for_each.false-raw) (sym c.adds_up.ensures ∙ not-true _ c.if-not-adds_up.true-raw)

pub returns-then-listed_twice : goal.returns-then-listed_twice
returns-then-listed_twice c = let a = c.args in
    two-same a.heads.now a.tables a.texts a.writes.now a.answers a.bytes (sym c.one_for_each.ensures ∙ not-false _ c.if-not-one_for_each.false-raw)
    (sym c.adds_up.ensures ∙ not-false _ c.if-not-adds_up.false-raw) (sym c.listed_twice.ensures ∙ c.if-listed_twice.true)

pub returns : goal.returns
returns c = let a = c.args in
    no_reason a.heads.now a.tables a.texts a.writes.now a.answers a.bytes (sym c.one_for_each.ensures ∙ not-false _ c.if-not-one_for_each.false-raw)
    (sym c.adds_up.ensures ∙ not-false _ c.if-not-adds_up.false-raw) (sym c.listed_twice.ensures ∙ c.if-listed_twice.false)
