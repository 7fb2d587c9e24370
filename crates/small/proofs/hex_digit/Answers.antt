-- Below ten, or not.
use borrow.Author.Tests.{lt-ltb, le-ltb}
use Rattle.small.specs.SmallLogs.{hex_digit}
use Rattle.small.proofs.hex_digit.Goals as goal

pub returns-then-d-lt10 : goal.returns-then-d-lt10
unfolding hex_digit
returns-then-d-lt10 c = rw (hex_digit, lt-ltb c.args.d 10 c.if-d-lt10.true)

pub returns : goal.returns
unfolding hex_digit
returns c = rw (hex_digit, le-ltb c.args.d 10 c.if-d-lt10.false)
