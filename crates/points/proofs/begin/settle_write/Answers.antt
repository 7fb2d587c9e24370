-- `points::begin::settle_write` meets its contract: the reasons of either kind come first, then 19. Assumes nothing.
use native.Mathlib.Omega.{arith}
use mathlib.Core.Path.{◌≡◌, sym, ◌∙◌, ap}
use Prim.Native.Nat.{ℕ}
use mathlib.Core.List.{List, []}
use Rattle.words.specs.Edition.{one}
use Rattle.points.specs.Record.{point_of}
use Rattle.points.specs.Search.{shared_of, Known, search as found-by}
use Rattle.points.proofs.Fits.{any_reports, any-known}
use Rattle.words.specs.Memory.{memory}
use Rattle.block_log.specs.CatchUp.{ahead, place_after}
use Rattle.block_log.specs.declared.Refusal.TheVariants.{NoRun}
use Rattle.std.proofs.lemmas.Result.{err_from_is_err_and, IfOk-at_ok}
use Rattle.block_log.proofs.Replies.{ok-none, err-number, number-not-0}
use Rattle.points.proofs.Begins.{start-refused, ReadReady, read-ready, begin-19, begin-found-0, begin-first}
use Rattle.points.proofs.begin.settle_write.Goals as goal
use Rattle.points.proofs.begin.settle_write.Goals.{In_ok-place}

passed : (c : In_ok-place) → let a = c.args in (reports : List ℕ) → Known a.numbers reports
    → ReadReady one a.image.now (shared_of a.numbers a.taken.now reports) (point_of a.head a.table.now []) a.offset a.size
passed c reports known =
    let a = c.args in
    read-ready one a.image.now (shared_of a.numbers a.taken.now reports) (point_of a.head a.table.now []) a.offset a.size
    (ok-none (c.settle.ensures.refusal a.taken.now reports known) c.in_ok-place.was)

pub returns-in_err-place : goal.returns-in_err-place
returns-in_err-place c reports known = let a = c.args in
    let s = shared_of a.numbers a.taken.now reports in
    let e = err-number (c.settle.ensures.refusal a.taken.now reports known) c.in_err-place.was in
    let p = err_from_is_err_and c.from_residual.result c.from_residual.ensures.1 in
    rw (p.1, p.2) (start-refused a.image.now s a.head a.table.now a.offset a.size _
    (begin-first one a.image.now s (point_of a.head a.table.now []) a.offset a.size _ e (number-not-0 _)))

pub overflow_cast-offset : goal.overflow_cast-offset
overflow_cast-offset c = let n = c.args.numbers in let t = (passed (goal.at.overflow_cast-offset c).In_ok-place (any_reports n) (any-known n)).fits in record { fits = omega (arith, t.ends-inside) }

pub overflow_cast-size : goal.overflow_cast-size
overflow_cast-size c = let n = c.args.numbers in let t = (passed (goal.at.overflow_cast-size c).In_ok-place (any_reports n) (any-known n)).fits in record { fits = omega (arith, t.few-text) }

pub returns-then-run-eq0 : goal.returns-then-run-eq0
returns-then-run-eq0 c reports known = let a = c.args in
    let s = shared_of a.numbers a.taken.now reports in
    let run = c.search-run.ensures ∙ ap (found-by s) c.span-span.ensures in
    start-refused a.image.now s a.head a.table.now a.offset a.size NoRun
    (begin-19 one a.image.now s (point_of a.head a.table.now []) a.offset a.size (passed (goal.at.returns-then-run-eq0 c).In_ok-place reports known).none (sym run ∙ c.if-run-eq0.true))

pub returns : goal.returns
returns c reports known = let a = c.args in
    let s = shared_of a.numbers a.taken.now reports in
    let run = c.search-run.ensures ∙ ap (found-by s) c.span-span.ensures in
    record {
      refusal = begin-found-0 one a.image.now s (point_of a.head a.table.now []) a.offset a.size (passed (goal.at.returns c).In_ok-place reports known).none
          (λ z. c.if-run-eq0.false (run ∙ z));
      tail = IfOk-at_ok (λ place. place ≡ place_after (ahead one (memory one a.image.now) a.numbers.blocks a.head.place)) c.in_ok-place.was c.settle.ensures.tail;
      found = run;
    }
