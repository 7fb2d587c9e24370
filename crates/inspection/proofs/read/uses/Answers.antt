use mathlib.Core.Path.{◌≡◌, ◌∙◌}
use Prim.Native.Nat.{◌+◌}
use native.Mathlib.Omega.{arith}
use lib.ListN.{length-set, length-replicate}
use Rattle.inspection.specs.declared.Use.{Use}
use Rattle.inspection.specs.declared.Use.TheVariants.{Free}
use Rattle.inspection.specs.Parts.{use_in}
use Rattle.inspection.proofs.Uses.{numbers-are, uses-on}
use Rattle.inspection.proofs.read.uses.Goals as goal

pub loop-b-init : goal.loop-b-init
loop-b-init c = (length-replicate {A = Use} 1024 Free, λ i h. absurd (omega arith))

pub loop-b-preserved : goal.loop-b-preserved
loop-b-preserved c = let l = c.loop-b in (
  length-set l.of-items l.b c.use_in.result ∙ l.invariant.0,
  uses-on l.of-items (use_in c.args.logs.now c.args.map.now) l.b c.use_in.result (omega (arith, l.invariant.0)) l.invariant.1 c.use_in.ensures,
)

pub returns : goal.returns
returns c = let l = c.loop-b in
    numbers-are l.of-items (use_in c.args.logs.now c.args.map.now) 0 1024 l.invariant.0 (λ i h. let z : 0 + i ≡ i = omega arith in rw z (l.invariant.1 i (omega (arith, h))))
