-- `points::serve::is_enterable`: each test that holds is a fact of it.
use mathlib.Core.Path.{sym, ◌∙◌}
use native.Mathlib.Omega.{arith}
use Rattle.points.proofs.ByHead.{enterable}
use Rattle.block_log.proofs.Walk.{never}
use Rattle.points.proofs.serve.is_enterable.Goals as goal

pub returns-then-bad_text : goal.returns-then-bad_text
returns-then-bad_text c e = never e

pub returns-then-past_end : goal.returns-then-past_end
returns-then-past_end c e = never e

pub returns-then-head-gt31 : goal.returns-then-head-gt31
returns-then-head-gt31 c e = never e

pub returns : goal.returns
returns c e = let a = c.args in
    enterable a.head (sym c.bad_text.ensures ∙ c.if-bad_text.false) (sym c.past_end.ensures ∙ c.if-past_end.false)
    (omega (arith, c.if-head-gt31.false)) (rw (← c.span.ensures) (sym c.inside.ensures ∙ e))
