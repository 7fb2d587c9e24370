-- `points::record::no_text` meets its contract: a filled array is the definition's list of zeros. Assumes nothing.
use borrow.Author.Rules.{rules}
use Rattle.points.specs.Record.{no_text}
use Rattle.points.proofs.record.no_text.Goals as goal

pub returns : goal.returns
unfolding no_text
returns c = search rules
