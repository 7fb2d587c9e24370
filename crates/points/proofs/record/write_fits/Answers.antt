-- `points::record::write_fits` meets its contract: its tests are those of the list; the last one goes by the phase. Assumes nothing.
use mathlib.Core.Path.{◌≡◌, sym, ap, ◌∙◌}
use mathlib.Core.Bool.{true}
use lib.Dec.{leb}
use borrow.Author.Tests.{not-true, not-false}
use Rattle.words.specs.Edition.{one}
use Rattle.points.proofs.Fits.{run_tests, write-no-run, write-zeroing, write-filling}
use Rattle.points.proofs.record.write_fits.Goals as goal
use Rattle.points.proofs.record.write_fits.Goals.{Else-not-run}

pub returns-then-not-run : goal.returns-then-not-run
returns-then-not-run c = let a = c.args in
    write-no-run one a.blocks a.place a.write (not-true _ (cc c.if-not-run.true-raw))

runs : (c : Else-not-run) → let a = c.args in run_tests one a.blocks a.place a.write ≡ true
runs c = not-false _ (cc c.if-not-run.false-raw)

pub returns-then-is_zeroing : goal.returns-then-is_zeroing
returns-then-is_zeroing c = let a = c.args in
    c.zeroing_fits.ensures ∙ write-zeroing one a.blocks a.place a.write (runs (goal.at.returns-then-is_zeroing c).Else-not-run) (sym c.is_zeroing.ensures ∙ c.if-is_zeroing.true)

pub returns : goal.returns
returns c = let a = c.args in
    ap (leb a.write.position) c.run_words.ensures
    ∙ write-filling one a.blocks a.place a.write (runs (goal.at.returns c).Else-not-run) (sym c.is_zeroing.ensures ∙ c.if-is_zeroing.false)
