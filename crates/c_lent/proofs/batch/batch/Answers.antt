use mathlib.Core.Path.{◌≡◌, sym, ◌∙◌}
use mathlib.Core.List.{List, []}
use Prim.Native.Nat.{◌<◌, ◌≤◌}
use native.Mathlib.Omega.{arith}
use lib.ListN.{get_or}
use Rattle.points.specs.Serving.{in_turn, rounds}
use Rattle.c_lent.specs.Serving.{CommonLent, ListedLent, turn_left, step_turn_for}
use Rattle.c_lent.proofs.Turns.{rounds-next, rounds-over}
use Rattle.c_lent.proofs.WordsLeft.{plain-fewer}
use Rattle.c_lent.proofs.batch.batch.Goals as goal

-- one round
one-round : (s s' : CommonLent) (xs xs' : List ListedLent) → turn_left s' xs' ≡ in_turn step_turn_for s xs → turn_left s' xs' ≡ rounds 1 step_turn_for s xs
one-round s s' xs xs' e = rounds-over 0 s' xs' (omega arith) ∙ sym (rounds-next 1 s s' xs xs' (omega arith) e)

pub round-requires : goal.round-requires
round-requires c = c.requires.0

pub returns-then-m-eq0 : goal.returns-then-m-eq0
returns-then-m-eq0 c = let y = c.round in
    let p = c.requires in
    (omega arith, omega (arith, p.2), (one-round _ _ _ _ y.ensures.0, y.ensures.1))

pub plain_batch-requires : goal.plain_batch-requires
plain_batch-requires c = let p = c.requires in
    let words = c.plain_words-words in
    let m = c.min-m in
    let some : 0 < words.result = omega (arith, m.ensures) in
    let fewer : m.result ≤ words.result = omega (arith, m.ensures) in
    let made : 0 < m.result = omega arith in
    (p.0, p.1, made, λ i l g. plain-fewer words.result m.result (get_or c.args.heads.now i []) fewer (words.ensures some i l g))
