-- `points::commit::at_end`: 20, 21 or a block to zero, in the order of the reasons.
use mathlib.Core.Path.{sym, ◌∙◌}
use Rattle.words.specs.Edition.{one}
use Rattle.points.specs.Search.{shared_of}
use Rattle.points.proofs.StepFacts.{end-full, end_none, end-free}
use Rattle.points.proofs.commit.at_end.Goals as goal

pub returns-then-numbers-ge64 : goal.returns-then-numbers-ge64
returns-then-numbers-ge64 c m reports = let a = c.args in
    c.give_up.ensures ∙ sym (end-full one m (shared_of a.numbers a.taken.now reports) a.head c.if-numbers-ge64.true)

pub returns-then-b-eq0 : goal.returns-then-b-eq0
returns-then-b-eq0 c m reports = let search = c.search-b in
    let a = c.args in
    c.give_up-then-b-eq0.ensures
    ∙ sym (end_none one m (shared_of a.numbers a.taken.now reports) a.head c.if-numbers-ge64.false (sym search.ensures ∙ c.if-b-eq0.true))

pub returns : goal.returns
returns c m reports = let search = c.search-b in
    let a = c.args in
    c.extend.ensures ∙ rw search.ensures
    (sym (end-free one m (shared_of a.numbers a.taken.now reports) a.head c.if-numbers-ge64.false (λ e. c.if-b-eq0.false (search.ensures ∙ e))))
