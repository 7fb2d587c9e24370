-- `points::locate::find` meets its contract: 22 is asked of the entry. Assumes nothing.
use mathlib.Core.Path.{◌∙◌}
use Rattle.points.proofs.ReadAnswers.{found_none, found_some}
use Rattle.points.proofs.locate.find.Goals as goal

pub returns-then-b-eq0 : goal.returns-then-b-eq0
returns-then-b-eq0 c = c.refused.ensures ∙ found_none _ _ c.from-b.ensures c.if-b-eq0.true

pub returns : goal.returns
returns c = c.counted.ensures ∙ found_some _ _ c.from-b.ensures c.if-b-eq0.false
