-- `points::begin::begin_read_lent` meets its contract: one law for the refusal, one for the beginning. Assumes nothing.
use native.Mathlib.Omega.{arith}
use Prim.Native.Nat.{ℕ}
use mathlib.Core.List.{List, []}
use mathlib.Core.Path.{◌≡◌}
use Rattle.words.specs.Edition.{one}
use Rattle.points.specs.Record.{point_of}
use Rattle.points.specs.Search.{shared_of, Known}
use Rattle.points.proofs.Fits.{any_reports, any-known}
use Rattle.words.specs.Memory.{memory}
use Rattle.block_log.specs.CatchUp.{ahead, place_after}
use Rattle.std.proofs.lemmas.Result.{IfOk-at_ok}
use Rattle.block_log.proofs.Replies.{ok-none, err-number}
use Rattle.points.proofs.Begins.{ReadReady, read-ready, begin-read-refused, begin-read-done}
use Rattle.points.proofs.begin.begin_read_lent.Goals as goal
use Rattle.points.proofs.begin.begin_read_lent.Goals.{In-Ok}

passed : (c : In-Ok) → let a = c.args in
    (taken reports : List ℕ) → Known a.numbers reports
    → ReadReady one a.image.now (shared_of a.numbers taken reports) (point_of a.head a.table.now a.text.now) a.offset a.size
passed c taken reports known =
    let a = c.args in
    read-ready one a.image.now (shared_of a.numbers taken reports) (point_of a.head a.table.now a.text.now) a.offset a.size
    (ok-none (c.settle.ensures.refusal taken reports known) c.in-Ok.is)

pub returns-in-Err : goal.returns-in-Err
returns-in-Err c taken reports known = let a = c.args in
    begin-read-refused one a.image.now (shared_of a.numbers taken reports) (point_of a.head a.table.now a.text.now) a.offset a.size
    _ (err-number (c.settle.ensures.refusal taken reports known) c.in-Err.is)

pub overflow_cast-offset : goal.overflow_cast-offset
overflow_cast-offset c = let n = c.args.numbers in
    let r = passed (goal.at.overflow_cast-offset c).In-Ok [] (any_reports n) (any-known n) in
    record { fits = omega (arith, r.fits.ends-inside) }

pub overflow_cast-size : goal.overflow_cast-size
overflow_cast-size c = let n = c.args.numbers in
    let r = passed (goal.at.overflow_cast-size c).In-Ok [] (any_reports n) (any-known n) in
    record { fits = omega (arith, r.fits.few-text) }

pub returns : goal.returns
returns c taken reports known = let r = passed (goal.at.returns c).In-Ok taken reports known in
    let a = c.args in
    begin-read-done one a.image.now (shared_of a.numbers taken reports) (point_of a.head a.table.now a.text.now) a.offset a.size r.none
    _ _ _ _ _ (IfOk-at_ok (λ place. place ≡ place_after (ahead one (memory one a.image.now) a.numbers.blocks a.head.place)) c.in-Ok.is c.settle.ensures.tail) (c.catch_up-length.ensures r.few r.sound) c.no_text.ensures
    (rw c.new_read.ensures at c.head_of.ensures)
