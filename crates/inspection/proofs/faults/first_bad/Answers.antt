use mathlib.Core.Path.{◌≡◌, refl, sym, ap, ◌∙◌}
use mathlib.Core.Bool.{Bool}
use mathlib.Core.List.{List}
use Prim.Native.Nat.{ℕ}
use Rattle.words.specs.Edition.{one}
use Rattle.words.specs.Memory.{Memory, memory, block_at}
use Rattle.block_log.specs.Chain.{bad_log_block}
use Rattle.inspection.proofs.Searches.{bad-here, bad-next, bad-none}
use Rattle.inspection.proofs.faults.first_bad.Goals as goal

-- the test is of the block looked at
tested : (m : Memory) (w b : ℕ) (part : List ℕ) (t : Bool) → w ≡ b → part ≡ block_at m w → t ≡ bad_log_block part → bad_log_block (block_at m b) ≡ t
tested m w b part t e p q = sym (q ∙ ap bad_log_block (p ∙ ap (block_at m) e))

pub loop-b-init : goal.loop-b-init
loop-b-init c = refl

pub returns-then-bad_log_block : goal.returns-then-bad_log_block
returns-then-bad_log_block c = let l = c.loop-b in
    let m = memory one c.args.image.now in
    c.from-then-bad_log_block.ensures
    ∙ sym (l.invariant ∙ bad-here m c.args.chain.now l.b-index c.loop-b-test.true
    (tested m _ _ _ _ c.from.ensures c.block.ensures c.bad_log_block.ensures ∙ c.if-bad_log_block.true))

pub loop-b-preserved : goal.loop-b-preserved
loop-b-preserved c = let l = c.loop-b in
    let m = memory one c.args.image.now in
    l.invariant ∙ bad-next m c.args.chain.now l.b-index c.loop-b-test.true
    (tested m _ _ _ _ c.from.ensures c.block.ensures c.bad_log_block.ensures ∙ c.if-bad_log_block.false)

pub returns : goal.returns
returns c = let l = c.loop-b in
    sym (l.invariant ∙ bad-none (memory one c.args.image.now) c.args.chain.now l.b-index c.loop-b-test.false)
