use mathlib.Core.Path.{◌≡◌, sym, ap, ◌∙◌}
use mathlib.Core.Bool.{true}
use mathlib.Core.List.{List, [], ◌∷◌}
use Prim.Native.Nat.{ℕ, ◌+◌}
use native.Mathlib.Omega.{arith}
use lib.ListN.{drop}
use Rattle.words.specs.BlockMap.{set_all}
use Rattle.inspection.specs.Parts.{clashes_at, first_clash}
use Rattle.inspection.proofs.Searches.{clash-here, clash-next, clash-over}
use Rattle.inspection.proofs.faults.first_shared.Goals as goal

pub loop-v-init : goal.loop-v-init
loop-v-init c = (omega arith, omega arith)

pub returns-then-clashes : goal.returns-then-clashes
returns-then-clashes c = let l = c.loop-v in
    let t = ap (clashes_at l.map) (sym c.from-b.ensures) ∙ sym c.clashes.ensures ∙ c.if-clashes.true in
    (sym (l.invariant.1 ∙ clash-here l.map c.args.table.now l.v (omega arith) t), omega arith)

pub loop-v-preserved : goal.loop-v-preserved
loop-v-preserved c = let l = c.loop-v in
    let w = c.from-b.ensures in
    let t = ap (clashes_at l.map) (sym w) ∙ sym c.clashes.ensures ∙ c.if-clashes.false in
    let m = c.take_one.ensures ∙ ap (λ (b : ℕ). set_all true l.map (b ∷ [])) w in (
      omega arith,
      l.invariant.1 ∙ clash-next l.map c.args.table.now l.v (omega arith) t
          ∙ ap (λ (k : List ℕ). l.v + 1 + first_clash k (drop (l.v + 1) c.args.table.now)) (sym m),
    )

pub returns : goal.returns
returns c = let l = c.loop-v in
    let e = clash-over l.map c.args.table.now l.v (omega arith) in
    let z : l.v ≡ 256 = omega arith in
    (omega (arith, l.invariant.1, e, z), omega arith)
