-- `recovery::sessions_agree` meets its contract: the cases are computed in proofs/Sessions, MoreSessions, OtherSizes, ReadSessions, StandSessions and
-- TurnSessions. Assumes nothing.
use Rattle.recovery.proofs.Sessions.{sessions}
use Rattle.recovery.proofs.MoreSessions.{more-sessions}
use Rattle.recovery.proofs.OtherSizes.{other-sizes}
use Rattle.recovery.proofs.ReadSessions.{read-sessions}
use Rattle.recovery.proofs.StandSessions.{stand-sessions}
use Rattle.recovery.proofs.TurnSessions.{turn-sessions}
use Rattle.recovery.proofs.sessions_agree.Goals as goal

pub returns : goal.returns
returns c = (sessions, more-sessions, other-sizes, read-sessions, stand-sessions, turn-sessions)
