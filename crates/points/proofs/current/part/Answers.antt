-- `points::current::part` meets its contract: no block for 0, and the block for any other index. Assumes nothing.
use mathlib.Core.Path.{sym, ◌∙◌}
use Rattle.words.specs.Edition.{one}
use Rattle.words.specs.Memory.{memory}
use Rattle.points.proofs.FilePieces.{part-block}
use Rattle.points.proofs.current.part.Goals as goal

pub returns : goal.returns
returns c = let a = c.args in
    c.block.ensures ∙ sym (part-block (memory one a.image.now) a.b c.if-b-eq0.false)
