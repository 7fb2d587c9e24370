-- `points::shared::without_point` meets its contract: a bit is cleared by `&` with all but it. Assumes nothing.
use native.Mathlib.Omega.{arith}
use Rattle.words.proofs.WithBit.{bit-is-cleared}
use Rattle.points.proofs.shared.without_point.Goals as goal

pub returns : goal.returns
returns c = bit-is-cleared 32 c.args.joined c.args.number c.requires (omega arith)
