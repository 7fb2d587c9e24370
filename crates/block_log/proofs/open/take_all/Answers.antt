-- Block 0, the chain and the table are taken one after the other.
use mathlib.Core.Path.{sym, ap, ◌∙◌}
use mathlib.Core.List.{List, []}
use Prim.Native.Nat.{ℕ}
use Rattle.std.specs.Prelude.{Result, Ok, Err}
use Rattle.block_log.specs.declared.Refusal.{Refusal}
use Rattle.block_log.specs.declared.Refusal.TheVariants.{BlockShared}
use Rattle.block_log.proofs.Taken.{met-shares, map-taken}
use Rattle.block_log.proofs.open.take_all.Goals as goal

pub returns-then-take_live-clause-met : goal.returns-then-take_live-clause-met
returns-then-take_live-clause-met c e is = let l = c.take_live in
    let a = c.args in (
      sym (ap (λ (r : Result (List ℕ) Refusal). elim r [ Ok map ↦ BlockShared | Err k ↦ k ]) is),
      sym (met-shares a.image.now a.table.now c.requires c.set_block.new.map c.take_chain.new.map l.new.map l.result
          c.set_block.ensures c.take_chain.ensures l.ensures.1) ∙ c.if-take_live.true,
    )

pub returns-clause-taken : goal.returns-clause-taken
returns-clause-taken c map is = let l = c.take_live in
    let a = c.args in (
      sym c.if-take_live.false ∙ met-shares a.image.now a.table.now c.requires c.set_block.new.map c.take_chain.new.map l.new.map l.result
          c.set_block.ensures c.take_chain.ensures l.ensures.1,
      sym (ap (λ (r : Result (List ℕ) Refusal). elim r [ Ok k ↦ k | Err e ↦ [] ]) is)
          ∙ map-taken a.image.now a.table.now c.requires c.set_block.new.map c.take_chain.new.map l.new.map l.result
          c.set_block.ensures c.take_chain.ensures l.ensures.0,
    )
