-- Everybody gets a turn: in a row that begins at any cut, of at most 32 points, none listed twice, nobody is unfinished after `serve_rounds`, and no step is
-- refused but by 20 or 21. Beginnings leave each live point a rank of at most that (Row.Begun); each round lowers it (Row.Round).
-- That so many rounds are needed, but one, is computed (TurnSessions).
use mathlib.Core.List.{map}
use native.Mathlib.Omega.{arith}
use lib.ListN.{length}
use Rattle.words.specs.Edition.{Edition}
use Rattle.points.specs.Serving.{serve_rounds}
use Rattle.recovery.specs.World.{events}
use Rattle.recovery.specs.History.{calls_before, at_cut}
use Rattle.recovery.specs.Row.{begin_of, begun_world, begun_turns}
use Rattle.recovery.specs.Claim.{Turns}
use Rattle.recovery.proofs.Claim.{opens-enough, same_start, bytes_before}
use Rattle.recovery.proofs.Demand3.{after_tied}
use Rattle.recovery.proofs.Row.Listed.{each_map, once-apart, apart-unfinished, fewer-unfinished}
use Rattle.recovery.proofs.Row.OneTurn.{Live, Holds}
use Rattle.recovery.proofs.Row.Round.{rounds-end}
use Rattle.recovery.proofs.Row.Begun.{Fresh, all-begun, fresh-live}

pub turns : (E : Edition) → Turns E
unfolding Turns
turns E h ts few once bytes =
    let t = after_tied E h.words (opens-enough h) (calls_before h) (bytes_before h) in
    let at : Holds E (at_cut h) = rw (same_start h) (record { log = _; book = _; tied = t }) in
    let w = begun_world E (at_cut h) ts in
    let live = begun_turns E (at_cut h) ts in
    let did = events E (at_cut h) (map begin_of ts) in
    let k = serve_rounds E (length ts) in
    let b = all-begun E ts (at_cut h) at bytes in
    let fewer = fewer-unfinished ts did in
    rounds-end E k w b.holds live (apart-unfinished ts did (once-apart ts once)) (omega arith)
    (each_map (λ u. Fresh E w u.number) (λ u. Live E (length live) w k u.number) live
    (λ u l f. fresh-live w b.holds u.number (length live) (length ts) fewer f) b.fresh)
