-- Each way out is one of the three tests.
use mathlib.Core.Path.{◌∙◌}
use Rattle.inspection.proofs.ReadOn.{stops-zero, stops-outside, stops-read}
use Rattle.inspection.proofs.read.stops_at.Goals as goal

pub returns-then-index-eq0 : goal.returns-then-index-eq0
returns-then-index-eq0 c = let a = c.args in stops-zero a.blocks a.map.now a.index c.if-index-eq0.true

pub returns-then-blocks-index : goal.returns-then-blocks-index
returns-then-blocks-index c = let a = c.args in stops-outside a.blocks a.map.now a.index c.if-index-eq0.false c.if-blocks-index.true

pub returns : goal.returns
returns c = let a = c.args in
    c.is_taken.ensures ∙ stops-read a.blocks a.map.now a.index c.if-index-eq0.false c.if-blocks-index.false
