-- `points::release::release`: by what is freed.
use Rattle.points.specs.Plan.{freed}
use Rattle.points.proofs.release.release.Goals as goal

pub free_replaced-requires : goal.free_replaced-requires
free_replaced-requires c = rw c.in-Replaced.is at c.requires

pub returns-in-NoBlock : goal.returns-in-NoBlock
unfolding freed
returns-in-NoBlock c = rw c.in-NoBlock.is

pub returns-in-Held : goal.returns-in-Held
unfolding freed
returns-in-Held c = rw c.in-Held.is c.free_held.ensures

pub returns-in-Replaced : goal.returns-in-Replaced
unfolding freed
returns-in-Replaced c = rw c.in-Replaced.is c.free_replaced.ensures

pub returns-in-Zeroed : goal.returns-in-Zeroed
unfolding freed
returns-in-Zeroed c = rw c.in-Zeroed.is c.set_block.ensures
