-- `points::record::unfit_unread` meets its contract: each reason is asked where the ones before it failed. Assumes nothing.
use mathlib.Core.Path.{◌≡◌, sym, ◌∙◌}
use mathlib.Core.Bool.{true, false}
use mathlib.Core.List.{List}
use Prim.Native.Nat.{ℕ}
use borrow.Author.Tests.{not-true, not-false}
use Rattle.words.specs.Edition.{one}
use Rattle.points.specs.Record.{bad_shared, fits, unfit}
use Rattle.points.specs.Search.{shared_of, Known}
use Rattle.points.proofs.record.unfit_unread.Goals as goal
use Rattle.points.proofs.record.unfit_unread.Goals.{Else-bad_numbers, Else-not-fits_unread}

not-10 : (c : Else-bad_numbers) (taken reports : List ℕ) → let a = c.args in Known a.numbers reports
    → bad_shared one a.image.now (shared_of a.numbers taken reports) ≡ false
not-10 c taken reports known = sym (c.bad_numbers.ensures taken reports known) ∙ c.if-bad_numbers.false

not-11 : (c : Else-not-fits_unread) → let a = c.args in fits one a.numbers.blocks a.head a.table.now ≡ true
not-11 c = sym c.fits_unread.ensures ∙ not-false _ c.if-not-fits_unread.false-raw

pub returns-then-bad_numbers : goal.returns-then-bad_numbers
unfolding unfit
returns-then-bad_numbers c taken reports known = rw (sym (c.bad_numbers.ensures taken reports known) ∙ c.if-bad_numbers.true)

pub fits_unread-requires : goal.fits_unread-requires
fits_unread-requires c = c.requires

pub returns-then-not-fits_unread : goal.returns-then-not-fits_unread
unfolding unfit
returns-then-not-fits_unread c taken reports known = rw (not-10 (goal.at.returns-then-not-fits_unread c).Else-bad_numbers taken reports known, sym c.fits_unread.ensures ∙ not-true _ c.if-not-fits_unread.true-raw)

pub returns-then-not-is_joined : goal.returns-then-not-is_joined
unfolding unfit
returns-then-not-is_joined c taken reports known = rw (not-10 (goal.at.returns-then-not-is_joined c).Else-bad_numbers taken reports known, not-11 (goal.at.returns-then-not-is_joined c).Else-not-fits_unread, sym c.is_joined.ensures ∙ not-true _ c.if-not-is_joined.true-raw)

pub returns : goal.returns
unfolding unfit
returns c taken reports known = rw (not-10 (goal.at.returns c).Else-bad_numbers taken reports known, not-11 (goal.at.returns c).Else-not-fits_unread, sym c.is_joined.ensures ∙ not-false _ c.if-not-is_joined.false-raw)
