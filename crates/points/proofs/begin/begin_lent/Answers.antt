-- `points::begin::begin_lent` meets its contract: one law for the refusal, one for the beginning; what has passed the reasons gives every bound.
-- Assumes nothing.
use native.Mathlib.Omega.{arith}
use Prim.Native.Nat.{ℕ}
use mathlib.Core.List.{List}
use mathlib.Core.Path.{◌≡◌, ap}
use Rattle.words.specs.Edition.{one}
use Rattle.points.specs.Record.{point_of, span}
use Rattle.points.specs.Search.{search, shared_of, Known, reporting_place}
use Rattle.points.proofs.Fits.{any_reports, any-known}
use Rattle.words.specs.Memory.{memory}
use Rattle.block_log.specs.CatchUp.{ahead, place_after}
use lib.ListN.{length}
use Rattle.std.proofs.lemmas.Result.{IfOk-at_ok}
use Rattle.block_log.proofs.Replies.{ok-none, err-number}
use Rattle.points.proofs.Begins.{Ready, ready, begin-refused, begin-done}
use Rattle.points.proofs.begin.begin_lent.Goals as goal
use Rattle.points.proofs.begin.begin_lent.Goals.{In-Ok}

passed : (c : In-Ok) → let a = c.args in (reports : List ℕ) → Known a.numbers reports
    → Ready one a.image.now (shared_of a.numbers a.taken.now reports) (point_of a.head a.table.now a.text.now) a.offset a.bytes.now
passed c reports known =
    let a = c.args in
    ready one a.image.now (shared_of a.numbers a.taken.now reports) (point_of a.head a.table.now a.text.now) a.offset a.bytes.now
    (ok-none (c.settle_write.ensures reports known).refusal c.in-Ok.is)

pub returns-in-Err : goal.returns-in-Err
returns-in-Err c reports known = let a = c.args in
    begin-refused one a.image.now (shared_of a.numbers a.taken.now reports) (point_of a.head a.table.now a.text.now) a.offset a.bytes.now
    _ (err-number (c.settle_write.ensures reports known).refusal c.in-Err.is)

pub put_text-requires : goal.put_text-requires
put_text-requires c = let n = c.args.numbers in
    (passed (goal.at.put_text-requires c).In-Ok (any_reports n) (any-known n)).fits.few-text

pub overflow_cast-at : goal.overflow_cast-at
overflow_cast-at c = let n = c.args.numbers in
    let r = passed (goal.at.overflow_cast-at c).In-Ok (any_reports n) (any-known n) in
    record { fits = omega (arith, r.fits.ends-inside) }

pub overflow_cast-size : goal.overflow_cast-size
overflow_cast-size c = let n = c.args.numbers in
    let r = passed (goal.at.overflow_cast-size c).In-Ok (any_reports n) (any-known n) in
    record { fits = omega (arith, r.fits.few-text) }

pub returns : goal.returns
returns c reports known = let q = c.settle_write.ensures reports known in
    let r = passed (goal.at.returns c).In-Ok reports known in
    let a = c.args in
    let I = a.image.now in
    begin-done one a.image.now (shared_of a.numbers a.taken.now reports) (point_of a.head a.table.now a.text.now) a.offset a.bytes.now r
    _ _ _ _ _ _ _ _ (IfOk-at_ok (λ start. start.place ≡ place_after (ahead one (memory one I) a.numbers.blocks a.head.place)) c.in-Ok.is q.tail) (IfOk-at_ok (λ start. start.run ≡ search (shared_of a.numbers a.taken.now reports) (span one a.offset (length a.bytes.now))) c.in-Ok.is q.found) (c.catch_up-length.ensures r.few r.sound)
    c.put_text.ensures (rw c.new_write.ensures at c.head_of.ensures)
    c.span-span.ensures (ap (λ (map : List ℕ). reporting_place c.head_of.result (shared_of a.numbers map reports)) c.set_run.ensures)
