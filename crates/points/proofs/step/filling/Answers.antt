-- `points::step::filling`: a next word there is, or none; what the callees ask is what a record that fits tells.
use native.Mathlib.Omega.{arith}
use Rattle.words.specs.Edition.{one}
use Rattle.words.specs.Memory.{memory}
use Rattle.points.specs.Record.{point_of}
use Rattle.points.specs.Search.{shared_of}
use mathlib.Core.Path.{sym, ◌∙◌}
use Rattle.points.proofs.Fits.{any_reports}
use Rattle.points.proofs.StepFacts.{of-any, ready, ready-position, fills, commits}
use Rattle.points.proofs.RecordFacts.{span-few}
use Rattle.points.proofs.step.filling.Goals as goal

pub next_word-k-requires : goal.next_word-k-requires
next_word-k-requires c = let pre = c.requires in
    let a = c.args in
    let some = any_reports a.numbers in
    let f = ready one a.image.now (shared_of a.numbers a.taken.now some) a.head a.table.now (of-any a.image.now _ _ _ _ pre.0) in
    let t = f.run.text in
    let n = span-few one a.head.write.offset a.head.write.size t in
    let w = c.run_words-words.ensures in (
      t.some-text,
      t.few-text,
      rw w (ready-position one a.image.now (shared_of a.numbers a.taken.now some) a.head a.table.now
          (of-any a.image.now _ _ _ _ pre.0) pre.1),
      rw w (omega (arith, n.1)),
      w,
    )

pub fill-requires : goal.fill-requires
fill-requires c = let pre = c.requires in
    let run-words = c.run_words-words in
    let a = c.args in
    let some = any_reports a.numbers in
    let f = ready one a.image.now (shared_of a.numbers a.taken.now some) a.head a.table.now (of-any a.image.now _ _ _ _ pre.0) in
    let t = f.run.text in
    ((t.some-text, t.few-text, t.ends-inside), rw run-words.ensures at c.if-k-words.true)

pub returns-then-k-words : goal.returns-then-k-words
returns-then-k-words c reports = let run-words = c.run_words-words in
    let next_word = c.next_word-k in
    let a = c.args in
    let m = memory one a.image.now in
    c.fill.ensures (shared_of a.numbers a.taken.now reports) ∙ sym
    (fills one m (shared_of a.numbers a.taken.now reports) (point_of a.head a.table.now a.text.now) next_word.result run-words.result
    next_word.ensures run-words.ensures c.if-k-words.true)

pub committing-requires : goal.committing-requires
committing-requires c = let pre = c.requires in
    pre.0

pub returns : goal.returns
returns c reports = let run-words = c.run_words-words in
    let next_word = c.next_word-k in
    let a = c.args in
    let m = memory one a.image.now in
    c.committing.ensures reports ∙ sym
    (commits one m (shared_of a.numbers a.taken.now reports) (point_of a.head a.table.now a.text.now) next_word.result run-words.result
    next_word.ensures run-words.ensures c.if-k-words.false)
