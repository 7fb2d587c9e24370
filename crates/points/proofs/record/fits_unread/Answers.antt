-- `points::record::fits_unread` meets its contract, test by test. Assumes nothing.
use mathlib.Core.Path.{◌≡◌, sym, ap, ◌∙◌}
use mathlib.Core.Bool.{Bool, true, ◌&&◌}
use lib.Dec.{leb}
use borrow.Author.Tests.{not-true, not-false}
use Rattle.words.specs.Edition.{one, file_end}
use Rattle.points.specs.Record.{place_fits, all_below}
use Rattle.points.proofs.Fits.{misplaced, mistabled, idle-fits, unread-fits}
use Rattle.points.proofs.record.fits_unread.Goals as goal
use Rattle.points.proofs.record.fits_unread.Goals.{After-place_fits, Else-not-place_fits-head, Else-not-table_fits}

-- the first test, of what the call of `place_fits` told
placed : (c : After-place_fits) → let h = c.args.head in
    (c.place_fits.result && leb h.length (file_end one)) ≡ (place_fits one c.args.blocks h.place && leb h.length (file_end one))
placed c = ap (λ (t : Bool). t && leb c.args.head.length (file_end one)) c.place_fits.ensures

pub returns-then-not-place_fits-head : goal.returns-then-not-place_fits-head
returns-then-not-place_fits-head c = let a = c.args in misplaced one a.blocks a.head a.table.now (sym (placed (goal.at.returns-then-not-place_fits-head c).After-place_fits) ∙ not-true _ c.if-not-place_fits-head.true-raw)

pub returns-then-not-table_fits : goal.returns-then-not-table_fits
returns-then-not-table_fits c = let a = c.args in
    mistabled one a.blocks a.head a.table.now (sym c.table_fits.ensures ∙ not-true _ c.if-not-table_fits.true-raw)

in_place : (c : Else-not-place_fits-head) → let a = c.args in
    (place_fits one a.blocks a.head.place && leb a.head.length (file_end one)) ≡ true
in_place c = sym (ap (λ (t : Bool). t && leb c.args.head.length (file_end one)) c.place_fits.ensures) ∙ not-false _ c.if-not-place_fits-head.false-raw

in_table : (c : Else-not-table_fits) → let a = c.args in all_below a.blocks a.table.now ≡ true
in_table c = sym c.table_fits.ensures ∙ not-false _ c.if-not-table_fits.false-raw

pub returns-then-is_idle : goal.returns-then-is_idle
returns-then-is_idle c = let a = c.args in
    idle-fits one a.blocks a.head a.table.now (in_place (goal.at.returns-then-is_idle c).Else-not-place_fits-head) (in_table (goal.at.returns-then-is_idle c).Else-not-table_fits) (sym c.is_idle.ensures ∙ c.if-is_idle.true)

pub returns : goal.returns
returns c = let a = c.args in
    c.write_fits.ensures
    ∙ unread-fits one a.blocks a.head a.table.now (in_place (goal.at.returns c).Else-not-place_fits-head) (in_table (goal.at.returns c).Else-not-table_fits)
    (sym c.is_idle.ensures ∙ c.if-is_idle.false) c.requires
