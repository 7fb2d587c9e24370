-- `points::locate::locate_lent` meets its contract: refused, or by the lent table, or by the table that is caught up. Assumes nothing.
use mathlib.Core.Path.{◌≡◌, ◌∙◌}
use mathlib.Core.Bool.{true}
use mathlib.Core.List.{[]}
use lib.Dec.{leb}
use Rattle.words.specs.Edition.{one}
use Rattle.points.specs.Record.{file_at}
use Rattle.points.specs.Search.{shared_of}
use Rattle.points.proofs.Fits.{any_reports, any-known}
use Rattle.points.specs.Reading.{seen}
use Rattle.std.proofs.lemmas.Result.{IfOk-at_ok}
use Rattle.block_log.proofs.Replies.{ok-none, err-number}
use Rattle.points.proofs.CaughtUp.{caught-file}
use Rattle.points.proofs.ReadAnswers.{locate-early, locate-inside, locate-index}
use Rattle.points.proofs.locate.locate_lent.Goals as goal

pub returns-in-Err : goal.returns-in-Err
returns-in-Err c = let a = c.args in
    λ taken reports known.
    c.refused.ensures
    ∙ locate-early one a.image.now (shared_of a.numbers taken reports) a.head a.table.now a.v _ (err-number (c.settle.ensures taken reports known).refusal c.in-Err.is)

pub find-requires : goal.find-requires
find-requires c = let a = c.args in
    locate-inside one a.image.now (shared_of a.numbers [] (any_reports a.numbers)) a.head a.table.now a.v (ok-none (c.settle.ensures [] (any_reports a.numbers) (any-known a.numbers)).refusal c.in-Ok.is)

pub returns-then-unchanged : goal.returns-then-unchanged
returns-then-unchanged c = let a = c.args in
    λ taken reports known.
    let s = shared_of a.numbers taken reports in
    let now = c.settle.ensures taken reports known in
    c.find.ensures
    ∙ locate-index one a.image.now s a.head a.table.now a.v (ok-none now.refusal c.in-Ok.is)
    (file_at a.head a.table.now) (IfOk-at_ok (λ unchanged. unchanged ≡ true → file_at a.head a.table.now ≡ seen one a.image.now s a.head a.table.now) c.in-Ok.is now.file c.if-unchanged.true)

pub find-requires-2 : goal.find-requires-2
find-requires-2 c = let a = c.args in
    locate-inside one a.image.now (shared_of a.numbers [] (any_reports a.numbers)) a.head a.table.now a.v (ok-none (c.settle.ensures [] (any_reports a.numbers) (any-known a.numbers)).refusal c.in-Ok.is)

pub returns : goal.returns
returns c = let a = c.args in
    λ taken reports known.
    let s = shared_of a.numbers taken reports in
    let z = ok-none (c.settle.ensures taken reports known).refusal c.in-Ok.is in
    c.find-2.ensures
    ∙ locate-index one a.image.now s a.head a.table.now a.v z _
    (caught-file one a.image.now s a.head a.table.now (leb 256 a.v) z _ c.catch_up-size.ensures)
