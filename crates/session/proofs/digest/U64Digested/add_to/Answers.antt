use Rattle.std.proofs.Common.{ap, sym}
use Rattle.session.specs.Digest.{digest_from, parts}
use Rattle.session.proofs.digest.U64Digested.add_to.Goals as goal

pub returns-clause-on : goal.returns-clause-on
unfolding digest_from parts
returns-clause-on c = λ xs. ap (λ r. digest_from r (parts xs)) (sym c.add_word.ensures.0)
