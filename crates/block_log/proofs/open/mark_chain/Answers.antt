use mathlib.Core.Path.{◌≡◌, refl, sym, ap, ◌∙◌}
use mathlib.Core.List.{List, ◌∷◌}
use mathlib.Core.Bool.{false, ◌||◌}
use Prim.Native.Nat.{ℕ, ◌<◌}
use native.Mathlib.Omega.{arith}
use lib.Dec.{leb}
use lib.ListN.{length, length-set}
use borrow.Author.Tests.{leb-false}
use Rattle.words.specs.Logic.{some_of}
use Rattle.words.proofs.Logic.{or_left, or_right}
use Rattle.block_log.specs.Chain.{chain, outside}
use Rattle.block_log.specs.Links.{links_left}
use Rattle.block_log.specs.Parts.{chain_mark}
use Rattle.block_log.proofs.Scratch.{chain-mark-step}
use Rattle.block_log.proofs.open.mark_chain.Goals as goal
use Rattle.block_log.proofs.open.mark_chain.Goals.{In-Some}

pub loop-b-init : goal.loop-b-init
unfolding chain
loop-b-init c = rw (c.into_iter-b-iterator.ensures.into_iter_gives, c.chain-b-items.ensures) (tt, tt, refl, c.requires.0, λ i. refl)

-- the block that is given, and that it and those after it are inside
given : (c : In-Some) → links_left c.loop-b.b-iterator ≡ c.in-Some.b ∷ links_left c.next.new.self
given c = c.in-Some.ensures.steps

inside : (c : In-Some) → (c.in-Some.b < 1024) × (some_of (outside 1024) (links_left c.next.new.self) ≡ false)
inside c =
    let b = c.in-Some.b in
    let rest = some_of (outside 1024) (links_left c.next.new.self) in
    let e : leb 1024 b || rest ≡ false = sym (ap (some_of (outside 1024)) (given c)) ∙ c.loop-b.invariant.3 in
    (leb-false 1024 b (or_left (leb 1024 b) rest e), or_right (leb 1024 b) rest e)

pub loop-b-preserved : goal.loop-b-preserved
loop-b-preserved c = let l = c.loop-b in
    let b = c.in-Some.b in
    let below = inside (goal.at.loop-b-preserved c).In-Some in
    let e = given (goal.at.loop-b-preserved c).In-Some in
    let h : b < length l.scratch = omega (arith, below.0, c.requires.1) in (
      tt,
      tt,
      length-set l.scratch b 65535 ∙ l.invariant.2,
      below.1,
      λ i. l.invariant.4 i ∙ ap (λ (bs : List ℕ). chain_mark bs l.scratch i) e ∙ chain-mark-step b (links_left c.next.new.self) l.scratch i h,
    )

pub returns : goal.returns
unfolding chain_mark
returns c = let l = c.loop-b in
    λ i. sym (l.invariant.4 i ∙ ap (λ (bs : List ℕ). chain_mark bs l.scratch i) c.in-None.ensures.steps.0)
