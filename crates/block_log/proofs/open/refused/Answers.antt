-- `block_log::open::refused`: the shared record is that of no blocks. Assumes nothing.
use Rattle.block_log.proofs.open.refused.Goals as goal

pub returns : goal.returns
returns c = rw c.nobody_joined.ensures
