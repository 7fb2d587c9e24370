-- Four numbers are added, one after the other, as the definition adds the parts of one word.
use Rattle.session.specs.Digest.{digest_from, parts}
use Rattle.session.proofs.digest.add_word.Goals as goal

pub returns : goal.returns
unfolding digest_from parts
returns c = (cc, c.add.ensures.1)
