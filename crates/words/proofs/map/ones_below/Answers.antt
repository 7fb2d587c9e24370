-- A whole word is counted as it is, its first n bits under a mask of n ones.
use Rattle.words.proofs.FreeCount.{low_ones}
use Rattle.words.proofs.map.ones_below.Goals as goal

pub returns : goal.returns
returns c = low_ones c.args.w c.args.n c.if-n-ge64.false
