-- `points::serve::row_at`: the row of the definition, where word k is one of the run's.
use native.Mathlib.Omega.{arith}
use mathlib.Core.Path.{◌∙◌}
use Rattle.points.proofs.Rows.{row_is}
use Rattle.points.proofs.serve.row_at.Goals as goal

pub returns : goal.returns
returns c = let a = c.args in (
  row_is a.head a.table.now a.k c.from.result c.lead-lead.result c.min-size.result c.run_first.result
      c.block.result c.lead-lead.ensures c.min-size.ensures c.run_first.ensures c.block.ensures
      (λ _. c.from.ensures ∙ c.mapped.ensures),
  omega arith,
)
