-- `points::extend::extending`: one law for each way through the tests of position and next index.
use mathlib.Core.Path.{sym, ◌∙◌}
use Rattle.words.specs.Edition.{one}
use Rattle.words.specs.Memory.{memory}
use borrow.Author.Tests.{lt-ltb, le-ltb}
use Rattle.words.proofs.Tests.{is-zero, not-zero}
use Rattle.points.proofs.StepCases.{zero-on, last_on, lost-on}
use Rattle.points.proofs.extend.extending.Goals as goal

pub returns-then-head-lt64 : goal.returns-then-head-lt64
returns-then-head-lt64 c = let a = c.args in
    let m = memory one a.image.now in
    c.zero_out.ensures ∙ sym (zero-on one m a.head a.chain (lt-ltb _ _ c.if-head-lt64.true))

pub returns-then-next_index-eq0 : goal.returns-then-next_index-eq0
returns-then-next_index-eq0 c = let a = c.args in
    let m = memory one a.image.now in
    c.linking.ensures ∙ sym (last_on one m a.head a.chain (le-ltb _ _ c.if-head-lt64.false) (is-zero _ (sym c.next_index.ensures ∙ c.if-next_index-eq0.true)))

pub returns : goal.returns
returns c = let a = c.args in
    let m = memory one a.image.now in
    c.give_back.ensures
    ∙ sym (lost-on one m a.head a.chain (le-ltb _ _ c.if-head-lt64.false) (not-zero _ (λ e. c.if-next_index-eq0.false (c.next_index.ensures ∙ e))))
