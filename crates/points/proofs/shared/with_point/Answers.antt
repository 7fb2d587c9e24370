-- `points::shared::with_point` meets its contract: a bit is set by `|` with a shifted 1. Assumes nothing.
use Rattle.words.proofs.WithBit.{bit-is-set}
use Rattle.points.proofs.shared.with_point.Goals as goal

pub returns : goal.returns
returns c = bit-is-set 32 c.args.joined c.args.number c.requires
