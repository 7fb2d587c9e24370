-- `small::all_legal` meets its contract: proofs/Claim.
use Rattle.small.proofs.Claim.{all-legal}
use Rattle.small.proofs.all_legal.Goals as goal

pub returns : goal.returns
returns c = all-legal
