-- `points::commit::committing`: one law for each way through the tests of slot and word; what its callees ask is what a record that fits tells.
use mathlib.Core.Path.{sym, ap, ◌∙◌}
use native.Mathlib.Omega.{arith}
use Rattle.words.specs.Edition.{one}
use Rattle.words.specs.Memory.{memory}
use Prim.Native.Nat.{ℕ}
use mathlib.Core.List.{List}
use lib.ListN.{get_or}
use Rattle.points.specs.Search.{shared_of}
use Rattle.points.proofs.Fits.{any_reports}
use Rattle.points.proofs.StepFacts.{of-any, ready, run-below, slot-empty, slot-taken, chain-ends, chain-goes-on}
use Rattle.points.proofs.Leaves.{joined_small}
use Rattle.points.proofs.commit.committing.Goals as goal

pub commit-requires : goal.commit-requires
commit-requires c = let if1 = c.if-slot-lt64 in
    let a = c.args in
    let some = any_reports a.numbers in
    let f = ready one a.image.now (shared_of a.numbers a.taken.now some) a.head a.table.now
    (of-any a.image.now _ _ _ _ c.requires) in
    let r = f.run in
    let t = r.text in
    (((t.some-text, t.few-text, t.ends-inside), run-below f, joined_small a.numbers.joined a.head.number (omega arith) f.joined), if1.true)

pub returns-then-word-eq0 : goal.returns-then-word-eq0
returns-then-word-eq0 c reports = let block = c.block-part in
    let if1 = c.if-slot-lt64 in
    let word = c.word in
    let a = c.args in
    let m = memory one a.image.now in
    c.commit.ensures ∙ sym
    (slot-empty one m (shared_of a.numbers a.taken.now reports) a.head if1.true
    (sym (word.ensures ∙ ap (λ (part : List ℕ). get_or part a.head.place.slot 0) block.ensures) ∙ c.if-word-eq0.true))

pub returns-then-slot-lt64 : goal.returns-then-slot-lt64
returns-then-slot-lt64 c reports = let block = c.block-part in
    let if1 = c.if-slot-lt64 in
    let word = c.word in
    let a = c.args in
    let m = memory one a.image.now in
    c.move_on.ensures ∙ sym
    (slot-taken one m (shared_of a.numbers a.taken.now reports) a.head if1.true
    (λ e. c.if-word-eq0.false (word.ensures ∙ ap (λ (part : List ℕ). get_or part a.head.place.slot 0) block.ensures ∙ e)))

pub returns-then-word-eq0-2 : goal.returns-then-word-eq0-2
returns-then-word-eq0-2 c reports = let block = c.block-part in
    let if1 = c.if-slot-lt64 in
    let word2 = c.word-2 in
    let a = c.args in
    let m = memory one a.image.now in
    let some = any_reports a.numbers in
    let f = ready one a.image.now (shared_of a.numbers a.taken.now some) a.head a.table.now
    (of-any a.image.now _ _ _ _ c.requires) in
    c.at_end.ensures m reports ∙ sym
    (chain-ends one m (shared_of a.numbers a.taken.now reports) a.head (omega (arith, if1.false, f.place.slot-high))
    (sym (word2.ensures ∙ ap (λ (part : List ℕ). get_or part 0 0) block.ensures) ∙ c.if-word-eq0-2.true))

pub returns : goal.returns
returns c reports = let block = c.block-part in
    let if1 = c.if-slot-lt64 in
    let word2 = c.word-2 in
    let a = c.args in
    let m = memory one a.image.now in
    let some = any_reports a.numbers in
    let f = ready one a.image.now (shared_of a.numbers a.taken.now some) a.head a.table.now
    (of-any a.image.now _ _ _ _ c.requires) in
    c.move_on-2.ensures ∙ sym
    (chain-goes-on one m (shared_of a.numbers a.taken.now reports) a.head (omega (arith, if1.false, f.place.slot-high))
    (λ e. c.if-word-eq0-2.false (word2.ensures ∙ ap (λ (part : List ℕ). get_or part 0 0) block.ensures ∙ e)))
