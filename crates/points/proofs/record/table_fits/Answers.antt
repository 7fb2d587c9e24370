-- `points::record::table_fits`: by the greatest entry. Assumes nothing.
use mathlib.Core.Path.{ap, ◌∙◌}
use native.Mathlib.Omega.{arith}
use Prim.Native.Nat.{ℕ}
use lib.Dec.{ltb}
use Rattle.points.proofs.Fits.{greatest-below}
use Rattle.points.proofs.record.table_fits.Goals as goal

pub returns : goal.returns
returns c = let a = c.args in
    ap (λ (n : ℕ). ltb n a.blocks) c.greatest.ensures ∙ greatest-below a.blocks a.table.now (omega arith)
