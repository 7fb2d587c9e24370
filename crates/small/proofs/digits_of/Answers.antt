use native.Mathlib.Omega.{arith}
use lib.ListN.{replicate}
use Rattle.words.proofs.Logic.{list_from-next}
use Rattle.small.specs.SmallLogs.{digit_at}
use Rattle.small.proofs.digits_of.Goals as goal

pub loop-i-preserved : goal.loop-i-preserved
loop-i-preserved c = let l = c.loop-i in
    list_from-next (digit_at c.args.e) l.digit-items (replicate 16 0) l.i c.hex_digit.result l.invariant c.hex_digit.ensures (omega arith)
