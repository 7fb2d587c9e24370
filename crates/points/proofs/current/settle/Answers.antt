-- `points::current::settle`: each reason is asked where the ones before it failed. Assumes nothing.
use mathlib.Core.Path.{sym, ◌∙◌}
use Rattle.words.specs.Edition.{one}
use Rattle.words.specs.Memory.{memory}
use Rattle.block_log.specs.CatchUp.{ahead}
use Rattle.points.specs.Search.{shared_of}
use Rattle.block_log.specs.declared.Refusal.TheVariants.{PastEnd, LogBroken}
use Rattle.std.proofs.lemmas.Result.{err_from_is_err_and}
use Rattle.block_log.proofs.Walk.{never}
use Rattle.block_log.proofs.Replies.{ok-none, err-number, number-not-0}
use Rattle.points.proofs.CaughtUp.{refused_as, look-broken, catch-up-unfit, catch-up-past, catch-up-broken, catch-up-clear, tail-clear, tail-file}
use Rattle.points.proofs.current.settle.Goals as goal

pub returns-in_err-unfit_numbers : goal.returns-in_err-unfit_numbers
returns-in_err-unfit_numbers c = let a = c.args in
    let p = err_from_is_err_and c.from_residual.result c.from_residual.ensures.1 in
    λ taken reports known.
    let e = err-number (c.unfit_numbers.ensures taken reports known) c.in_err-unfit_numbers.was in
    rw (p.1, p.2)
    (refused_as _ (catch-up-unfit one a.image.now (shared_of a.numbers taken reports) a.head a.table.now a.past _ e (number-not-0 _)))

pub returns-then-past : goal.returns-then-past
returns-then-past c = let a = c.args in
    λ taken reports known.
    refused_as PastEnd
    (catch-up-past one a.image.now (shared_of a.numbers taken reports) a.head a.table.now a.past
    (ok-none (c.unfit_numbers.ensures taken reports known) c.in_ok-unfit_numbers.was) c.if-past.true)

pub returns-then-at_tail : goal.returns-then-at_tail
returns-then-at_tail c = let a = c.args in
    let inside = c.if-past.false in
    let tail = sym c.at_tail.ensures ∙ c.if-at_tail.true in
    λ taken reports known.
    let fit = ok-none (c.unfit_numbers.ensures taken reports known) c.in_ok-unfit_numbers.was in
    record {
      refusal = tail-clear one a.image.now (shared_of a.numbers taken reports) a.head a.table.now a.past fit inside tail;
      file = λ _. tail-file one a.image.now (shared_of a.numbers taken reports) a.head a.table.now a.past fit inside tail;
    }

pub returns-then-ahead : goal.returns-then-ahead
returns-then-ahead c = let a = c.args in
    let walk = ahead one (memory one a.image.now) a.numbers.blocks a.head.place in
    let seen = look-broken one _ a.numbers.blocks 0 0 walk c.look-ahead.ensures in
    λ taken reports known.
    refused_as LogBroken
    (catch-up-broken one a.image.now (shared_of a.numbers taken reports) a.head a.table.now a.past
    (ok-none (c.unfit_numbers.ensures taken reports known) c.in_ok-unfit_numbers.was) c.if-past.false (sym seen ∙ c.if-ahead.true))

pub returns : goal.returns
returns c = let a = c.args in
    let walk = ahead one (memory one a.image.now) a.numbers.blocks a.head.place in
    let seen = look-broken one _ a.numbers.blocks 0 0 walk c.look-ahead.ensures in
    λ taken reports known.
    record {
      refusal = catch-up-clear one a.image.now (shared_of a.numbers taken reports) a.head a.table.now a.past
          (ok-none (c.unfit_numbers.ensures taken reports known) c.in_ok-unfit_numbers.was) c.if-past.false (sym seen ∙ c.if-ahead.false);
      file = λ z. never z;
    }
