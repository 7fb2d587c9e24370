-- `small::only_legal` meets its contract: proofs/Only.
use Rattle.small.specs.Tried.{legal_logs}
use Rattle.small.proofs.Claim.{all-legal}
use Rattle.small.proofs.Only.{only_one}
use Rattle.small.proofs.only_legal.Goals as goal

pub returns : goal.returns
returns c = λ logs a. only_one logs legal_logs a all-legal
