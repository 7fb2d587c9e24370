use Prim.Native.Nat.{ℕ, ◌+◌, ◌-◌}
use mathlib.Core.Path.{◌≡◌, refl, ap, ◌∙◌}
use mathlib.Core.Bool.{false}
use native.Mathlib.Omega.{arith}
use lib.ListN.{take, drop}
use Rattle.words.specs.BlockMap.{set_all}
use Rattle.points.proofs.Commits.{freed-next, freed-all}
use Rattle.points.proofs.release.free_mapped_from.Goals as goal

pub loop-b-init : goal.loop-b-init
loop-b-init c = (refl, refl)

pub loop-b-preserved : goal.loop-b-preserved
loop-b-preserved c = let a = c.args in
    let l = c.loop-b in
    let f = c.free_mapped in
    (freed-next a.map.now l.map f.new.map _ l.b-index (omega arith) l.invariant.0 f.ensures, f.auto.map ∙ l.invariant.1)

pub shape_of-map : goal.shape_of-map
shape_of-map c = c.loop-b.invariant.1

pub returns : goal.returns
returns c = let a = c.args in
    let l = c.loop-b in
    let n : a.v + a.n - a.v ≡ a.n = omega arith in
    freed-all a.map.now l.map _ l.b-index (omega arith) l.invariant.0
    ∙ ap (λ (k : ℕ). set_all false a.map.now (take k (drop a.v a.table.now))) n
