use Rattle.dispatch.proofs.Beginnings.{begun-turn}
use Rattle.dispatch.proofs.begin_turn.Goals as goal

pub returns : goal.returns
returns c = begun-turn _ _ _ _ _ _ _ c.begin-begun.ensures c.begun_numbers.ensures
