use mathlib.Core.Path.{◌≡◌, ◌∙◌, sym, refl, ap}
use mathlib.Core.List.{[], ◌∷◌}
use mathlib.Core.Bool.{true}
use lib.ListN.{length}
use Rattle.words.specs.BlockMap.{set_all}
use Rattle.words.specs.Edition.{one}
use Rattle.words.specs.Memory.{memory}
use Rattle.block_log.specs.Chain.{chain}
use Rattle.block_log.specs.Links.{links_left}
use Rattle.words.proofs.BlockMap.{length-set_block, set_all-next}
use Rattle.block_log.proofs.Chain.{chain-first}
use Rattle.block_log.proofs.open.take_chain.Goals as goal

pub loop-b-init : goal.loop-b-init
unfolding chain
loop-b-init c = (tt, tt, refl, rw (c.into_iter-b-iterator.ensures.into_iter_gives, c.chain-b-items.ensures))

pub loop-b-preserved : goal.loop-b-preserved
loop-b-preserved c = let l = c.loop-b in
    let b = c.in-Some.b in
    let it = l.b-iterator in
    let e : links_left it ≡ b ∷ links_left c.next.new.self = c.in-Some.ensures.steps in
    let taken : set_all true l.map (links_left it) ≡ set_all true c.set_block.new.map (links_left c.next.new.self) =
    rw (e, c.set_block.ensures) (set_all-next l.map b (links_left c.next.new.self) (chain-first (memory one it.image.now) it.left it.index b _ e)) in
    (tt, tt, ap length c.set_block.ensures ∙ length-set_block true l.map b ∙ l.invariant.2, l.invariant.3 ∙ taken)

pub returns : goal.returns
unfolding set_all
returns c = let l = c.loop-b in
    let e : links_left l.b-iterator ≡ [] = c.in-None.ensures.steps.0 in
    sym (l.invariant.3 ∙ ap (set_all true l.map) e)
