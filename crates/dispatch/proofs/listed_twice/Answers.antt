use mathlib.Core.Path.{refl, sym, ap, ◌∙◌}
use mathlib.Core.Bool.{Bool, ◌||◌}
use Prim.Native.Nat.{◌+◌}
use lib.ListN.{drop}
use Rattle.points.specs.Serving.{twice, point_numbers}
use Rattle.dispatch.proofs.Twice.{twice-next}
use Rattle.dispatch.proofs.listed_twice.Goals as goal

pub returns-then-is_listed : goal.returns-then-is_listed
returns-then-is_listed c =
    let l = c.loop-i in
    let next = twice-next c.args.points.now l.i _ _ c.loop-i-test.true refl in
    sym (l.invariant ∙ next ∙ ap (λ (b : Bool). b || twice (point_numbers (drop (l.i + 1) c.args.points.now))) (sym c.is_listed.ensures ∙ c.if-is_listed.true))

pub loop-i-preserved : goal.loop-i-preserved
loop-i-preserved c =
    let l = c.loop-i in
    let next = twice-next c.args.points.now l.i _ _ c.loop-i-test.true refl in
    l.invariant ∙ next ∙ ap (λ (b : Bool). b || twice (point_numbers (drop (l.i + 1) c.args.points.now))) (sym c.is_listed.ensures ∙ c.if-is_listed.false)
