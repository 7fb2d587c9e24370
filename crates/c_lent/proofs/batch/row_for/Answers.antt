-- `c_lent::batch::row_for`: nothing is stored, a log block is zeroed, a run is filled.
use mathlib.Core.Path.{refl}
use Rattle.words.proofs.Tests.{no_true}
use Rattle.c_lent.proofs.Calls.{tests-none, tests-known}
use Rattle.c_lent.proofs.WordsLeft.{zero_row, fill-row}
use Rattle.c_lent.proofs.batch.row_for.Goals as goal

pub returns-then-not-goes_on : goal.returns-then-not-goes_on
returns-then-not-goes_on c = record { on = λ g. absurd (no_true g (tests-none c.goes_on.ensures c.if-not-goes_on.true-raw)); off = λ g. refl }

pub returns-then-head-eq5 : goal.returns-then-head-eq5
returns-then-head-eq5 c = let a = c.args in
    record {
      on = λ g. (_, refl, zero_row a.head.now a.table.now c.if-head-eq5.true);
      off = λ g. absurd (no_true (tests-known c.goes_on.ensures c.if-not-goes_on.false-raw) g);
    }

pub head-known-requires : goal.head-known-requires
head-known-requires c = c.requires (tests-known c.goes_on.ensures c.if-not-goes_on.false-raw)

pub returns : goal.returns
returns c = let y = c.row_at-row in
    let a = c.args in
    record {
      on = λ g. (_, refl, fill-row _ a.head.now a.table.now y.result c.head-known.ensures y.ensures.0 c.if-head-eq5.false);
      off = λ g. absurd (no_true (tests-known c.goes_on.ensures c.if-not-goes_on.false-raw) g);
    }
