use mathlib.Core.Path.{◌≡◌, sym}
use native.Mathlib.Omega.{arith}
use Rattle.inspection.proofs.ReadOn.{read-begin, read_again, ends-full, ends-stopped, reads-kept, map-sized, index-inside}
use Rattle.inspection.proofs.read.read_chain.Goals as goal

pub loop-count-init : goal.loop-count-init
loop-count-init c = let a = c.args in
    read-begin a.image.now c.args.blocks a.chain.now c.first_index-b.result c.told-chain c.first_index-b.ensures

pub returns-then-stops_at : goal.returns-then-stops_at
returns-then-stops_at c = reads-kept c.loop-count.count (ends-stopped c.loop-count.invariant c.stops_at.ensures c.if-stops_at.true)

pub overflow_cast-next : goal.overflow_cast-next
overflow_cast-next c = let l = c.loop-count in
    omega (arith, (index-inside l.invariant c.stops_at.ensures c.if-stops_at.false).1, c.requires)

pub slice_bounds-set_block-end : goal.slice_bounds-set_block-end
slice_bounds-set_block-end c = let l = c.loop-count in sym (map-sized l.invariant)

pub loop-count-preserved : goal.loop-count-preserved
loop-count-preserved c = let l = c.loop-count in
    read_again l.invariant c.stops_at.ensures c.requires c.loop-count-test.true c.if-stops_at.false _ _ c.set_block.ensures
    c.next_index-b.ensures

pub returns : goal.returns
returns c = let l = c.loop-count in
    let z : l.count ≡ 64 = omega (arith, l.auto.count-end) in
    rw z at (ends-full l.invariant c.loop-count-test.false)
