use mathlib.Core.Path.{◌≡◌, ◌∙◌, sym, refl}
use mathlib.Core.List.{[], ◌∷◌}
use mathlib.Core.Bool.{true, ◌||◌}
use Prim.Native.Nat.{◌<◌}
use native.Mathlib.Omega.{arith}
use lib.ListN.{length, get_or}
use Rattle.words.specs.BlockMap.{set_all}
use Rattle.block_log.specs.Parts.{clash}
use Rattle.block_log.proofs.Taken.{live-marks, live-clash, live_end}
use Rattle.block_log.proofs.open.take_live.Goals as goal

pub loop-b-preserved : goal.loop-b-preserved
loop-b-preserved c = let a = c.args in
    let l = c.loop-b in
    let k = c.take_one-met in
    let h : l.b-index < length a.table.now = omega arith in
    let m : _ ≡ set_all true l.map (get_or a.table.now l.b-index 0 ∷ []) = rw c.from.ensures at k.ensures.0 in
    let t : k.result ≡ clash l.map (get_or a.table.now l.b-index 0 ∷ []) = rw c.from.ensures at k.ensures.1 in (
      k.auto.map ∙ l.invariant.0,
      l.invariant.1 ∙ live-marks a.table.now l.map _ l.b-index h m,
      l.invariant.2 ∙ live-clash a.table.now l.map _ l.b-index h m l.met k.result (l.met || k.result) t refl,
    )

pub returns : goal.returns
returns c = let a = c.args in
    let l = c.loop-b in
    let e = live_end a.table.now l.map l.b-index l.met (omega (arith, c.requires)) in
    (sym (l.invariant.1 ∙ e.0), sym (l.invariant.2 ∙ e.1))
