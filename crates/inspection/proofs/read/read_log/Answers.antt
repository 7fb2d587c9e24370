use mathlib.Core.Path.{◌≡◌}
use native.Mathlib.Omega.{arith}
use lib.ListN.{get_or}
use Rattle.words.specs.Edition.{one}
use Rattle.words.specs.Memory.{memory, block_at}
use Rattle.inspection.proofs.Legal.{gather-begin, gather-again, gather-stopped, gather-end, whole-block}
use Rattle.inspection.proofs.read.read_log.Goals as goal
use Rattle.inspection.proofs.read.read_log.Goals.{After-block-part}

part-is : (c : After-block-part) → c.block-part.result.now ≡ block_at (memory one c.args.image.now) (get_or c.args.chain.now c.loop-b.b-index 0)
part-is c = rw c.from.ensures at c.block-part.ensures

pub loop-b-init : goal.loop-b-init
loop-b-init c = let a = c.args in gather-begin a.image.now a.blocks a.chain.now a.entries.now

pub read_part-to-requires : goal.read_part-to-requires
read_part-to-requires c = let w = whole-block c.requires c.loop-b.b-index c.loop-b-test.true in
    rw (part-is (goal.at.read_part-to-requires c).After-block-part) (omega (arith, w), omega (arith, w, c.loop-b.invariant.few, c.requires.short, c.loop-b-test.true))

pub overflow_add-n : goal.overflow_add-n
overflow_add-n c = omega (arith, c.loop-b.invariant.few, c.requires.short, c.loop-b-test.true)

pub returns-then-to-n : goal.returns-then-to-n
returns-then-to-n c = gather-stopped c.loop-b.invariant c.told-entries c.requires c.loop-b-test.true
    (rw (part-is (goal.at.returns-then-to-n c).After-block-part) at c.read_part-to.ensures) c.if-to-n.true

pub loop-b-preserved : goal.loop-b-preserved
loop-b-preserved c = gather-again c.loop-b.invariant c.told-entries c.requires c.loop-b-test.true
    (rw (part-is (goal.at.loop-b-preserved c).After-block-part) at c.read_part-to.ensures) c.if-to-n.false

pub returns : goal.returns
returns c = gather-end c.loop-b.invariant c.told-entries (omega (arith, c.loop-b.auto.b-index-end, c.requires.short)) c.loop-b-test.false
