-- The live blocks, block 0 and the chain are marked one after the other.
use mathlib.Core.Path.{◌∙◌}
use lib.ListN.{length-set}
use Rattle.words.specs.Edition.{one}
use Rattle.words.specs.Memory.{memory}
use Rattle.block_log.specs.Chain.{chain}
use Rattle.block_log.proofs.Chain.{outside_below}
use Rattle.block_log.proofs.Scratch.{scratch-marked}
use Rattle.block_log.proofs.Taken.{table_below}
use Rattle.block_log.proofs.open.mark_scratch.Goals as goal

pub returns : goal.returns
returns c = let l = c.mark_live in
    let a = c.args in
    let p = c.requires in
    let cs = chain (memory one a.image.now) in
    scratch-marked a.table.now cs a.scratch.now a.scratch.now l.new.scratch c.mark_chain.new.scratch
    (table_below a.table.now p.known.fits.inside) (outside_below cs p.known.chained) p.long p.clear l.auto.scratch l.ensures
    (c.mark_chain.auto.scratch ∙ length-set l.new.scratch 0 65535) c.mark_chain.ensures
