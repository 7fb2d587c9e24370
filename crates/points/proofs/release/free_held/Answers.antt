-- `points::release::free_held` meets its contract: by the phase, it frees nothing, the run, or the run and the block being zeroed. Assumes nothing.
use mathlib.Core.Path.{◌≡◌, sym, ◌∙◌}
use mathlib.Core.Bool.{true}
use borrow.Author.Tests.{not-true, not-false}
use Rattle.words.specs.Edition.{one}
use Rattle.points.specs.Record.{is_writing}
use Rattle.points.proofs.Leaves.{held_none, held-run, held_both}
use Rattle.points.proofs.release.free_held.Goals as goal
use Rattle.points.proofs.release.free_held.Goals.{Else-not-is_writing}

busy : (c : Else-not-is_writing) → is_writing c.args.write.phase ≡ true
busy c = sym c.is_writing.ensures ∙ not-false _ c.if-not-is_writing.false-raw

pub returns-then-not-is_writing : goal.returns-then-not-is_writing
returns-then-not-is_writing c = let a = c.args in held_none one a.map.now a.write (sym c.is_writing.ensures ∙ not-true _
    c.if-not-is_writing.true-raw)

pub returns-then-is_zeroing : goal.returns-then-is_zeroing
returns-then-is_zeroing c = let a = c.args in
    held_both one a.map.now a.write (busy (goal.at.returns-then-is_zeroing c).Else-not-is_writing) _ c.free_run.ensures _
    (sym c.is_zeroing.ensures ∙ c.if-is_zeroing.true) c.set_block.ensures

pub returns-else-is_zeroing : goal.returns-else-is_zeroing
returns-else-is_zeroing c = let a = c.args in
    held-run one a.map.now a.write (busy (goal.at.returns-else-is_zeroing c).Else-not-is_writing) _ c.free_run.ensures
    (sym c.is_zeroing.ensures ∙ c.if-is_zeroing.false)
