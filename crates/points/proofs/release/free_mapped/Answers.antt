-- `points::release::free_mapped`: 0 stands for no block.
use mathlib.Core.Path.{◌∙◌}
use Rattle.points.proofs.Commits.{free-none, free_one}
use Rattle.points.proofs.release.free_mapped.Goals as goal

pub returns-then-b-ne0 : goal.returns-then-b-ne0
returns-then-b-ne0 c = let args = c.args in
    let if1 = c.if-b-ne0 in
    let free-block = c.set_block in
    free-block.ensures ∙ free_one args.map.now args.b if1.true

pub returns-else-b-ne0 : goal.returns-else-b-ne0
returns-else-b-ne0 c = let args = c.args in
    free-none args.map.now args.b c.if-b-ne0.false
