-- `points::commit::last_edge`: the definition's order, counted from the run's start.
use Rattle.words.specs.Edition.{one}
use Rattle.points.proofs.Commits.{last-edge}
use Rattle.points.proofs.commit.last_edge.Goals as goal

pub returns : goal.returns
returns c = let args = c.args in
    rw c.lead-lead.ensures (last-edge one args.write c.span-n.result c.span-n.ensures)
