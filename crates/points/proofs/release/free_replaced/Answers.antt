-- `points::release::free_replaced`: as many blocks as the write spans, from its first on. Assumes nothing.
use Rattle.points.proofs.release.free_replaced.Goals as goal

pub free_mapped_from-requires : goal.free_mapped_from-requires
free_mapped_from-requires c = rw (c.span-n.ensures, c.run_first-v.ensures) c.requires

pub returns : goal.returns
returns c = rw (c.span-n.ensures, c.run_first-v.ensures) at c.free_mapped_from.ensures
