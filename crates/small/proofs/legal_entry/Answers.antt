-- Of one block, then of two.
use mathlib.Core.Path.{◌∙◌, sym}
use Rattle.small.proofs.Entries.{entry-one, entry-two}
use Rattle.small.proofs.legal_entry.Goals as goal

pub returns-then-k-lt-OF_ONE_BLOCK : goal.returns-then-k-lt-OF_ONE_BLOCK
returns-then-k-lt-OF_ONE_BLOCK c = let a = c.args in c.entry.ensures ∙ sym (entry-one a.k c.if-k-lt-OF_ONE_BLOCK.true)

pub returns : goal.returns
returns c = let a = c.args in c.entry-2.ensures ∙ sym (entry-two a.k c.if-k-lt-OF_ONE_BLOCK.false)
