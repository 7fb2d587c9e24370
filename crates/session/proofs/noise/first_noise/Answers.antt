-- The two cases of the definition.
use mathlib.Core.Path.{sym}
use Rattle.session.proofs.MadeLaws.{first-zero, first-other}
use Rattle.session.proofs.noise.first_noise.Goals as goal

pub returns-then-seed-eq0 : goal.returns-then-seed-eq0
returns-then-seed-eq0 c = sym (first-zero c.if-seed-eq0.true)

pub returns : goal.returns
returns c = sym (first-other _ c.if-seed-eq0.false)
