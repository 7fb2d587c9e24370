-- `points::read::read_lent` meets its contract: refused, and the buffer as it was; or the file's bytes, by the lent table or a copy that is caught up.
use Prim.Native.Nat.{ℕ}
use mathlib.Core.Path.{◌≡◌, refl, ◌∙◌}
use mathlib.Core.Bool.{true, false}
use mathlib.Core.List.{List}
use Rattle.words.specs.Edition.{one}
use Rattle.block_log.specs.declared.Shared.{Shared}
use Rattle.block_log.specs.Replay.{Mapped}
use Rattle.points.specs.declared.Head.{Head}
use Rattle.points.specs.declared.Count.{Count}
use Rattle.points.specs.Record.{file_at}
use Rattle.points.specs.Reading.{seen, ReadLeaves}
use Rattle.points.specs.Search.{shared_of}
use Rattle.points.specs.Lent.{catch_up_refusal, FillsFrom}
use Rattle.std.proofs.lemmas.Result.{IfOk-at_ok}
use Rattle.block_log.proofs.Replies.{ok-none, err-number}
use Rattle.points.proofs.CaughtUp.{caught-file}
use Rattle.points.proofs.ReadAnswers.{read-refused, read-untouched, read_done, read-filled}
use Rattle.points.proofs.read.read_lent.Goals as goal

-- what is read of the file that the point sees
given : (I : List ℕ) (s : Shared) (h : Head) (table : List ℕ) (offset : ℕ) (buffer : List ℕ) → catch_up_refusal one I s h table false ≡ 0
    → (f : Mapped) → f ≡ seen one I s h table → (r : Count) (out : List ℕ) → FillsFrom I f.table f.size offset buffer r out
    → ReadLeaves I s h table offset buffer r out
given I s h table offset buffer z f is r out filled =
    record {
      count = filled.count ∙ read_done one I s h table offset buffer z f is _ refl;
      bytes = read-filled one I s h table offset buffer z f is _ refl out filled.bytes;
    }

pub returns-in-Err : goal.returns-in-Err
returns-in-Err c = let a = c.args in
    λ taken reports known.
    let s = shared_of a.numbers taken reports in
    let e = err-number (c.settle.ensures taken reports known).refusal c.in-Err.is in
    record {
      count = c.refused.ensures ∙ read-refused one a.image.now s a.head a.table.now a.offset a.buffer.now _ e;
      bytes = read-untouched one a.image.now s a.head a.table.now a.offset a.buffer.now _ e;
    }

pub returns-then-unchanged : goal.returns-then-unchanged
returns-then-unchanged c = let a = c.args in
    λ taken reports known.
    let s = shared_of a.numbers taken reports in
    let now = c.settle.ensures taken reports known in
    given a.image.now s a.head a.table.now a.offset a.buffer.now (ok-none now.refusal c.in-Ok.is)
    (file_at a.head a.table.now) (IfOk-at_ok (λ unchanged. unchanged ≡ true → file_at a.head a.table.now ≡ seen one a.image.now s a.head a.table.now) c.in-Ok.is now.file c.if-unchanged.true) _ _ c.fill_from.ensures

pub returns : goal.returns
returns c = let a = c.args in
    λ taken reports known.
    let s = shared_of a.numbers taken reports in
    let z = ok-none (c.settle.ensures taken reports known).refusal c.in-Ok.is in
    given a.image.now s a.head a.table.now a.offset a.buffer.now z _
    (caught-file one a.image.now s a.head a.table.now false z _ c.catch_up-size.ensures) _ _ c.fill_from-2.ensures
