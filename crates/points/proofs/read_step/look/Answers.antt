-- `points::read_step::look` meets its contract: two walks show the range's first, last and middle block. Assumes nothing.
use Rattle.words.specs.Edition.{one}
use Rattle.words.specs.Memory.{memory}
use Rattle.block_log.specs.CatchUp.{ahead}
use Rattle.points.proofs.ReadEnds.{both-looks}
use Rattle.points.proofs.read_step.look.Goals as goal

pub returns : goal.returns
returns c = let a = c.args in
    both-looks one a.blocks _ _ a.head (ahead one (memory one a.image.now) a.blocks a.head.place) _ _ c.requires.0 c.requires.1
    c.run_first-v.ensures c.span-n.ensures c.look-edges.ensures c.look-middle.ensures
