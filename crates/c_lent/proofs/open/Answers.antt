-- `c_lent::open`. Assumes nothing.
use mathlib.Core.Path.{◌∙◌, ap}
use Rattle.block_log.specs.declared.Opened.{Opened}
use Rattle.c_lent.specs.Numbers.{opened_numbers, lend_shared}
use Rattle.c_lent.proofs.open.Goals as goal

pub returns : goal.returns
returns c = let o = c.open-opened in (
  record { answers = c.into.ensures ∙ ap opened_numbers o.ensures.0; marks = o.ensures.1 },
  c.put.ensures ∙ ap (λ (x : Opened). lend_shared x.shared) o.ensures.0,
)
