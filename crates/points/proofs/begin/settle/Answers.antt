-- `points::begin::settle` meets its contract: each reason is asked where the ones before it failed. Assumes nothing.
use mathlib.Core.Path.{◌≡◌, sym, ◌∙◌, ap}
use mathlib.Core.Bool.{true, false}
use mathlib.Core.List.{List}
use Prim.Native.Nat.{ℕ}
use borrow.Author.Tests.{not-true, not-false}
use Rattle.words.specs.Edition.{one}
use Rattle.words.specs.Memory.{memory}
use Rattle.block_log.specs.declared.Lookahead.{Lookahead}
use Rattle.block_log.specs.CatchUp.{ahead, broken}
use Rattle.block_log.specs.Look.{lookahead_of}
use Rattle.points.specs.Record.{is_idle, bad_text, past_end, unfit}
use Rattle.points.specs.Search.{shared_of, Known}
use Rattle.block_log.specs.declared.Refusal.TheVariants.{WrongPhase, TextSize, PastEnd, LogBroken}
use Rattle.std.proofs.lemmas.Result.{err_from_is_err_and}
use Rattle.block_log.proofs.Replies.{ok-none, err-number, number-not-0}
use Rattle.points.proofs.Begins.{settled-refused, begin-unfit, begin-15, begin-16, begin-17, begin-18, begin-0}
use Rattle.points.proofs.begin.settle.Goals as goal
use Rattle.points.proofs.begin.settle.Goals.{Else-bad_text, Else-not-is_idle, Else-past_end, Else-seen, In_ok-unfit_numbers}

not-14 : (c : In_ok-unfit_numbers) → let a = c.args in (taken reports : List ℕ) → Known a.numbers reports
    → unfit one a.image.now (shared_of a.numbers taken reports) a.head a.table.now ≡ 0
not-14 c taken reports known = ok-none (c.unfit_numbers.ensures taken reports known) c.in_ok-unfit_numbers.was

not-15 : (c : Else-not-is_idle) → is_idle c.args.head.write.phase ≡ true
not-15 c = sym c.is_idle.ensures ∙ not-false _ c.if-not-is_idle.false-raw

not_16 : (c : Else-bad_text) → bad_text c.args.size ≡ false
not_16 c = sym c.bad_text.ensures ∙ c.if-bad_text.false

not-17 : (c : Else-past_end) → let a = c.args in past_end one a.offset a.size ≡ false
not-17 c = sym c.past_end.ensures ∙ c.if-past_end.false

not-18 : (c : Else-seen) → let a = c.args in
    broken one a.numbers.blocks (ahead one (memory one a.image.now) a.numbers.blocks a.head.place) ≡ false
unfolding lookahead_of
not-18 c = ap (λ (k : Lookahead). k.broken) (sym c.look-seen.ensures) ∙ c.if-seen.false

pub returns-in_err-unfit_numbers : goal.returns-in_err-unfit_numbers
returns-in_err-unfit_numbers c = let a = c.args in
    let p = err_from_is_err_and c.from_residual.result c.from_residual.ensures.1 in
    rw (p.1, p.2) (settled-refused a.image.now a.numbers a.head a.table.now a.offset a.size _
    (λ taken reports known. let e = err-number (c.unfit_numbers.ensures taken reports known) c.in_err-unfit_numbers.was in
    begin-unfit one a.image.now (shared_of a.numbers taken reports) a.head a.table.now a.offset a.size _ e (number-not-0 _)))

pub returns-then-not-is_idle : goal.returns-then-not-is_idle
returns-then-not-is_idle c = let a = c.args in
    settled-refused a.image.now a.numbers a.head a.table.now a.offset a.size WrongPhase
    (λ taken reports known. begin-15 one a.image.now (shared_of a.numbers taken reports) a.head a.table.now a.offset a.size (not-14 (goal.at.returns-then-not-is_idle c).In_ok-unfit_numbers taken reports known)
    (sym c.is_idle.ensures ∙ not-true _ c.if-not-is_idle.true-raw))

pub returns-then-bad_text : goal.returns-then-bad_text
returns-then-bad_text c = let a = c.args in
    settled-refused a.image.now a.numbers a.head a.table.now a.offset a.size TextSize
    (λ taken reports known. begin-16 one a.image.now (shared_of a.numbers taken reports) a.head a.table.now a.offset a.size
    (not-14 (goal.at.returns-then-bad_text c).In_ok-unfit_numbers taken reports known) (not-15 (goal.at.returns-then-bad_text c).Else-not-is_idle)
    (sym c.bad_text.ensures ∙ c.if-bad_text.true))

pub returns-then-past_end : goal.returns-then-past_end
returns-then-past_end c = let a = c.args in
    settled-refused a.image.now a.numbers a.head a.table.now a.offset a.size PastEnd
    (λ taken reports known. begin-17 one a.image.now (shared_of a.numbers taken reports) a.head a.table.now a.offset a.size
    (not-14 (goal.at.returns-then-past_end c).In_ok-unfit_numbers taken reports known) (not-15 (goal.at.returns-then-past_end c).Else-not-is_idle) (not_16 (goal.at.returns-then-past_end c).Else-bad_text)
    (sym c.past_end.ensures ∙ c.if-past_end.true))

pub returns-then-seen : goal.returns-then-seen
unfolding lookahead_of
returns-then-seen c = let a = c.args in
    settled-refused a.image.now a.numbers a.head a.table.now a.offset a.size LogBroken
    (λ taken reports known. begin-18 one a.image.now (shared_of a.numbers taken reports) a.head a.table.now a.offset a.size
    (not-14 (goal.at.returns-then-seen c).In_ok-unfit_numbers taken reports known) (not-15 (goal.at.returns-then-seen c).Else-not-is_idle) (not_16 (goal.at.returns-then-seen c).Else-bad_text) (not-17 (goal.at.returns-then-seen c).Else-past_end)
    (ap (λ (k : Lookahead). k.broken) (sym c.look-seen.ensures) ∙ c.if-seen.true))

pub returns : goal.returns
unfolding lookahead_of
returns c = let a = c.args in
    record {
      refusal = λ taken reports known.
          begin-0 one a.image.now (shared_of a.numbers taken reports) a.head a.table.now a.offset a.size
          (not-14 (goal.at.returns c).In_ok-unfit_numbers taken reports known) (not-15 (goal.at.returns c).Else-not-is_idle) (not_16 (goal.at.returns c).Else-bad_text) (not-17 (goal.at.returns c).Else-past_end) (not-18 (goal.at.returns c).Else-seen);
      tail = ap (λ (k : Lookahead). k.place) c.look-seen.ensures;
    }
