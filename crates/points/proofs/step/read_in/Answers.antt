-- `points::step::read_in`: by what is read in; what that asks for was settled with the plan.
use Rattle.block_log.specs.Replay.{replay_on}
use Rattle.points.specs.Plan.{read_in}
use Rattle.points.proofs.step.read_in.Goals as goal

pub returns-in-NoEntry : goal.returns-in-NoEntry
unfolding read_in
returns-in-NoEntry c = rw c.in-NoEntry.is

pub returns-in-OwnEntry : goal.returns-in-OwnEntry
unfolding read_in replay_on
returns-in-OwnEntry c = let told = c.in-OwnEntry.is in
    let f = rw told at c.requires in
    rw told (c.take_entry.ensures.legal _ f.0 f.1)

pub returns-in-AllAhead : goal.returns-in-AllAhead
unfolding read_in
returns-in-AllAhead c = let told = c.in-AllAhead.is in
    let f = rw told at c.requires in
    rw told (c.catch_up.ensures f.0 f.1)
