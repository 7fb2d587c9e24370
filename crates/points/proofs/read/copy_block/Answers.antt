-- `points::read::copy_block` meets its contract: zeros where there is no part, and the part's bytes. Assumes nothing.
use native.Mathlib.Omega.{arith}
use mathlib.Core.Path.{ap, ◌∙◌}
use lib.Seq.{sets}
use Rattle.words.specs.Edition.{one}
use Rattle.words.specs.Memory.{memory}
use Rattle.points.proofs.FilePieces.{part_bytes, hole-bytes, part-whole}
use Rattle.points.proofs.read.copy_block.Goals as goal

pub returns-then-part-eq0 : goal.returns-then-part-eq0
returns-then-part-eq0 c = let a = c.args in
    c.clear.ensures
    ∙ ap (sets _ a.at)
    (hole-bytes (memory one a.image.now) a.b _ c.part-part.ensures a.from a.n c.if-part-eq0.true)

pub copy-requires : goal.copy-requires
copy-requires c = let a = c.args in
    let whole = part-whole one a.image.now a.b _ c.part-part.ensures c.if-part-eq0.false in
    (omega arith, omega arith)

pub returns : goal.returns
returns c = let a = c.args in
    c.copy.ensures
    ∙ ap (sets _ a.at) (part_bytes (memory one a.image.now) a.b _ c.part-part.ensures a.from a.n)
