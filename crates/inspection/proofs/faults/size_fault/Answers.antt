-- The tests one after the other.
use mathlib.Core.Path.{sym, ◌∙◌}
use Rattle.inspection.proofs.Named.{size-broken, size_few, size-many}
use Rattle.inspection.proofs.faults.size_fault.Goals as goal

pub returns-then-blocks-size : goal.returns-then-blocks-size
returns-then-blocks-size c = c.wrong_size.ensures ∙ sym (size-broken _ _ c.whole_blocks-blocks.ensures c.if-blocks-size.true)

pub returns-then-blocks-lt4 : goal.returns-then-blocks-lt4
returns-then-blocks-lt4 c = c.wrong_size-then-blocks-lt4.ensures ∙ sym (size_few _ _ c.whole_blocks-blocks.ensures c.if-blocks-size.false c.if-blocks-lt4.true)

pub returns : goal.returns
returns c = c.wrong_size-2.ensures ∙ sym (size-many _ _ c.whole_blocks-blocks.ensures c.if-blocks-size.false c.if-blocks-lt4.false)
