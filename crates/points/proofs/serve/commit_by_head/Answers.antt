-- `points::serve::commit_by_head`: nothing is done, or each part is the definition's.
use borrow.Author.Tests.{not-false}
use Rattle.words.specs.Edition.{one}
use Rattle.words.specs.Memory.{memory}
use Rattle.points.specs.Batch.{Commits}
use Rattle.points.proofs.ByHead.{entry-fits, in_table, entry-mappable, commits-by-head, uncommitted}
use Rattle.points.proofs.serve.commit_by_head.Goals as goal
use Rattle.points.proofs.serve.commit_by_head.Goals.{Else-not-commits}

ready : (c : Else-not-commits) → let a = c.args in Commits (memory one a.image.now) a.head
ready c = c.commits.ensures (not-false _ c.if-not-commits.false-raw)

pub returns-then-not-commits : goal.returns-then-not-commits
returns-then-not-commits c = let a = c.args in uncommitted a.image.now a.taken.now a.head a.table.now a.text.now

pub entry_for-entry-requires : goal.entry_for-entry-requires
entry_for-entry-requires c = entry-fits _ (ready (goal.at.entry_for-entry-requires c).Else-not-commits).entry

pub free_replaced-requires : goal.free_replaced-requires
free_replaced-requires c = in_table c.args.head (ready (goal.at.free_replaced-requires c).Else-not-commits).entry

pub next_slot-requires : goal.next_slot-requires
next_slot-requires c = (ready (goal.at.next_slot-requires c).Else-not-commits).slot

pub returns : goal.returns
returns c = let a = c.args in
    commits-by-head a.image.now c.store.new.image a.taken.now c.free_replaced.new.map a.head c.head_of.result a.table.now
    c.take_entry-length.new.table a.text.now c.no_text.result c.entry_for-entry.result c.take_entry-length.result c.next_slot.result
    c.no_write-idle.result (ready (goal.at.returns c).Else-not-commits) c.entry_for-entry.ensures c.free_replaced.ensures
    (c.take_entry-length.ensures.mappable (rw c.entry_for-entry.ensures (entry-mappable c.args.head (ready (goal.at.returns c).Else-not-commits).entry)))
    c.no_text.ensures c.store.ensures c.next_slot.ensures c.no_write-idle.ensures c.head_of.ensures
