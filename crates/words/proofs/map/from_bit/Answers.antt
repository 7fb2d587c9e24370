-- Shifted down and up again, a word loses its lowest bits and nothing else.
use native.Mathlib.Omega.{arith}
use Rattle.words.proofs.Zeros.{shifted_back}
use Rattle.words.proofs.map.from_bit.Goals as goal

pub returns : goal.returns
returns c = shifted_back c.args.w c.args.j (omega arith)
