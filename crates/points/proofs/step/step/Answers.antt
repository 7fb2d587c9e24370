-- `points::step::step`: the step on copies of map, table and text.
use mathlib.Core.Path.{subst, sym}
use Rattle.block_log.specs.declared.Shared.{Shared}
use Rattle.points.specs.declared.Numbers.{Numbers}
use Rattle.points.specs.Lent.{Lengthens}
use Rattle.points.proofs.Planned.{whole-step}
use Rattle.points.proofs.step.step.Goals as goal

pub reported-requires : goal.reported-requires
reported-requires c = subst (λ (t : Shared). Lengthens c.step_lent-left.result.reports t.chain) (sym c.with_taken.ensures)
    (subst (λ (m : Numbers). Lengthens c.step_lent-left.result.reports m.chain) c.numbers-numbers.ensures c.step_lent-left.ensures.1)

pub returns : goal.returns
returns c = let a = c.args in
    whole-step a.image.now a.shared a.point a.bytes.now c.numbers-numbers.result c.step_lent-left.result _ _ _ _ _ c.reported.result
    c.numbers-numbers.ensures (rw c.with_taken.ensures at c.reported.ensures) c.step_lent-left.ensures.0
