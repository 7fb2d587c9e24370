-- `points::current::at_tail` meets its contract: the word is that of the block. Assumes nothing.
use Rattle.points.proofs.current.at_tail.Goals as goal

pub returns : goal.returns
returns c = rw (c.word.ensures, c.block-part.ensures)
