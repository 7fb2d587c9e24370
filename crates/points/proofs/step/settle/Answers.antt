-- `points::step::settle`: the reasons in their order, then what the step does.
use mathlib.Core.Path.{sym, ◌∙◌}
use Rattle.words.specs.Edition.{one}
use Rattle.points.specs.Record.{point_of}
use Rattle.points.specs.Search.{shared_of}
use Rattle.block_log.proofs.Replies.{ok-none, err-number, number-not-0}
use Rattle.points.proofs.StepFacts.{turned_away, none-under-way, under-way, goes_on}
use Rattle.points.proofs.step.settle.Goals as goal

pub unfit_unread-requires : goal.unfit_unread-requires
unfit_unread-requires c = c.requires

pub returns-in-Err : goal.returns-in-Err
returns-in-Err c reports known = let unfit = c.unfit_unread in
    let a = c.args in
    c.refused.ensures ∙ sym
    (turned_away one a.image.now (shared_of a.numbers a.taken.now reports) (point_of a.head a.table.now a.text.now) _
    (err-number (unfit.ensures a.taken.now reports known) c.in-Err.is) (number-not-0 _))

pub returns-then-is_idle : goal.returns-then-is_idle
returns-then-is_idle c reports known = let unfit = c.unfit_unread in
    let a = c.args in
    c.refused-then-is_idle.ensures ∙ sym
    (none-under-way one a.image.now (shared_of a.numbers a.taken.now reports) (point_of a.head a.table.now a.text.now)
    (ok-none (unfit.ensures a.taken.now reports known) c.in_default.is) (sym c.is_idle.ensures ∙ c.if-is_idle.true))

pub write_on-requires : goal.write_on-requires
write_on-requires c = let unfit = c.unfit_unread in
    let a = c.args in (
      λ reports known. under-way one a.image.now (shared_of a.numbers a.taken.now reports) (point_of a.head a.table.now a.text.now)
          (ok-none (unfit.ensures a.taken.now reports known) c.in_default.is) (sym c.is_idle.ensures ∙ c.if-is_idle.false),
      c.requires,
    )

pub returns : goal.returns
returns c reports known = let unfit = c.unfit_unread in
    let a = c.args in
    c.write_on.ensures reports ∙ sym
    (goes_on one a.image.now (shared_of a.numbers a.taken.now reports) (point_of a.head a.table.now a.text.now)
    (under-way one a.image.now (shared_of a.numbers a.taken.now reports) (point_of a.head a.table.now a.text.now)
    (ok-none (unfit.ensures a.taken.now reports known) c.in_default.is) (sym c.is_idle.ensures ∙ c.if-is_idle.false)))
