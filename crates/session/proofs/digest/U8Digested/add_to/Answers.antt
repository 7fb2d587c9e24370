use Rattle.std.proofs.Common.{◌∙◌, ap, sym}
use Rattle.session.specs.Digest.{digest_from, onward}
use Rattle.session.proofs.digest.U8Digested.add_to.Goals as goal

pub returns-clause-on : goal.returns-clause-on
unfolding digest_from
returns-clause-on c = λ xs. ap (λ r. digest_from r xs) (sym (c.add.ensures.0 ∙ ap (onward c.args.h) c.from.ensures))
