use Rattle.dispatch.proofs.Rounds.{no-turn-made, turn-made}
use Rattle.dispatch.proofs.step_turn.Goals as goal
use Rattle.std.proofs.Common.{rules}

pub returns-then-not-goes_on : goal.returns-then-not-goes_on
returns-then-not-goes_on c = no-turn-made _ _ _ _ (search rules)

pub returns : goal.returns
returns c = let s = c.step-stepped in turn-made _ _ _ _ _ s.result _ (search rules) s.ensures.answers s.ensures.stored c.into.ensures
