-- `points::shared::all_below`: the fold of the tests is the definition's list of tests. Assumes nothing.
use Prim.Native.Nat.{ℕ}
use mathlib.Core.Path.{◌≡◌, ◌∙◌}
use mathlib.Core.Bool.{Bool, true, ◌&&◌}
use lib.Dec.{ltb}
use native.Mathlib.Omega.{arith}
use Rattle.std.proofs.lemmas.Grind.{common_steps}
use Rattle.std.specs.List.{fold}
use Rattle.points.proofs.Fits.{folded}
use Rattle.points.proofs.shared.all_below.Goals as goal

pub returns : goal.returns
returns c = let a = c.args in
    let e : c.fold.result ≡ fold (λ (ok : Bool) (b : ℕ). ok && ltb b a.blocks) true a.bs.now = grind (arith, common_steps) in
    e ∙ folded a.blocks true a.bs.now
