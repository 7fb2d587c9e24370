-- `points::commit::first_edge`: the definition's two orders, counted from the run's start.
use Rattle.words.specs.Edition.{one}
use Rattle.points.proofs.Commits.{first_edge_lem}
use Rattle.points.proofs.commit.first_edge.Goals as goal

pub returns : goal.returns
returns c = let args = c.args in
    rw c.lead-lead.ensures (first_edge_lem one args.write)
