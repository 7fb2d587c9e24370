-- `points::record::past_end` meets its contract: the comparison that cannot wrap says the same as the sum. Assumes nothing.
use mathlib.Core.Path.{sym}
use Rattle.words.specs.Edition.{one}
use Rattle.points.proofs.Fits.{end-past, end-left}
use Rattle.points.proofs.record.past_end.Goals as goal

pub returns-then-size-gt131072 : goal.returns-then-size-gt131072
returns-then-size-gt131072 c = let a = c.args in sym (end-past one a.offset a.size c.if-size-gt131072.true)

pub returns : goal.returns
returns c = let a = c.args in end-left one a.offset a.size c.if-size-gt131072.false
