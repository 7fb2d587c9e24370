use mathlib.Core.Path.{refl}
use native.Mathlib.Omega.{arith}
use Rattle.words.proofs.Tests.{no_true}
use Rattle.c_lent.proofs.Calls.{tests-none}
use Rattle.c_lent.proofs.WordsLeft.{plain-fewer}
use Rattle.c_lent.proofs.batch.least_left.Goals as goal

pub returns-then-not-goes_on : goal.returns-then-not-goes_on
returns-then-not-goes_on c = (omega arith, λ g. absurd (no_true g (tests-none c.goes_on.ensures c.if-not-goes_on.true-raw)))

pub returns-then-left-least : goal.returns-then-left-least
returns-then-left-least c = let w = c.words_left-left.ensures c.args.head.now refl refl refl refl in
    (omega arith, λ g l. w l)

pub returns : goal.returns
returns c = let a = c.args in
    let w = c.words_left-left.ensures a.head.now refl refl refl refl in
    (omega arith, λ g l. plain-fewer c.words_left-left.result a.least a.head.now (omega arith) (w (omega arith)))
