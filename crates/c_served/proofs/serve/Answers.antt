-- `c_served::serve` meets its contract: what the call for C leaves is what c_lent's definition says (Serves). Assumes nothing.
use Rattle.c_lent.specs.Numbers.{shared_lent}
use Rattle.c_lent.specs.Serving.{common_lent}
use Rattle.c_served.proofs.Serves.{serve-for}
use Rattle.c_served.proofs.serve.Goals as goal

pub returns : goal.returns
returns c = let a = c.args in
    serve-for a.heads.now a.tables.now a.texts.now a.answers.now a.writes.now a.bytes.now
    (common_lent a.image.now (shared_lent a.shared.now a.taken.now)) _ c.serve.ensures
