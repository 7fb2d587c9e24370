-- The chain has ended, or as many were given as are to be; else the first of it is given.
use mathlib.Core.Path.{◌≡◌, ap, sym, ◌∙◌}
use mathlib.Core.List.{[], ◌∷◌}
use Prim.Native.Nat.{ℕ, ◌-◌}
use native.Mathlib.Omega.{arith}
use lib.ListN.{length}
use Rattle.words.specs.Edition.{one}
use Rattle.words.specs.Memory.{memory}
use Rattle.block_log.specs.Chain.{chain_from}
use Rattle.block_log.specs.Links.{links_left}
use Rattle.block_log.proofs.Chain.{chain-end, chain-none, chain_next}
use Rattle.block_log.proofs.links.LinksIterator.next.Goals as goal
use Rattle.block_log.proofs.links.LinksIterator.next.Goals.{then-b-eq0-via-then-b-eq0, then-b-eq0-via-else-b-eq0+then-self-eq0, After-next_index-self}

pub returns-then-b-eq0-clause-steps : goal.returns-then-b-eq0-clause-steps
returns-then-b-eq0-clause-steps c = let s = c.args.self.now in
    let none : links_left s ≡ [] = (elim c.then-b-eq0.branch [
      | then-b-eq0-via-then-b-eq0 w ↦ chain-end (memory one s.image.now) s.left s.index w.if-b-eq0.true
      | then-b-eq0-via-else-b-eq0+then-self-eq0 w ↦ chain-none (memory one s.image.now) s.left s.index (omega (arith, w.if-self-eq0.true))
    ]) in
    (none, none)

on : (c : After-next_index-self) → let s = c.args.self.now in
    chain_from (memory one s.image.now) s.left s.index ≡ s.index ∷ chain_from (memory one s.image.now) (s.left - 1) c.next_index-self.result
on c = let s = c.args.self.now in
    chain_next (memory one s.image.now) s.left s.index (omega arith) c.if-b-eq0.false
    ∙ ap (λ (b : ℕ). s.index ∷ chain_from (memory one s.image.now) (s.left - 1) b) (sym c.next_index-self.ensures)

pub returns-clause-steps : goal.returns-clause-steps
returns-clause-steps c = on (goal.at.returns-clause-steps c).After-next_index-self

pub returns-clause-goes : goal.returns-clause-goes
returns-clause-goes c = let e = on (goal.at.returns-clause-goes c).After-next_index-self in
    record { on = λ _. (tt, tt, omega (arith, ap length e)); keeps = tt; rests = λ _. tt }
