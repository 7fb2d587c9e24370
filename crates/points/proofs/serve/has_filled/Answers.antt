-- `points::serve::has_filled`: each test that holds is a fact of it.
use mathlib.Core.Path.{◌∙◌}
use Rattle.block_log.proofs.Walk.{never}
use Rattle.points.proofs.serve.has_filled.Goals as goal

pub returns-then-write-run_words : goal.returns-then-write-run_words
returns-then-write-run_words c e = never e

pub returns-in_default : goal.returns-in_default
returns-in_default c e = never e

pub returns-in-Filling : goal.returns-in-Filling
returns-in-Filling c e = record { filling = c.in-Filling.is; filled = c.if-write-run_words.false ∙ c.run_words.ensures }
