-- `points::serve::fill_round`: the rows before have stored their words.
use Prim.Native.Nat.{◌≤◌}
use mathlib.Core.Path.{◌≡◌}
use lib.ListN.{length}
use Rattle.points.specs.Batch.{round_stored}
use Rattle.points.proofs.serve.fill_round.Given as goal

abbrev pub invariant-loop-due : goal.invariant-loop-due
invariant-loop-due l =
    (length l.yielded ≤ length l.texts) × (length l.image ≡ length l.initial.image)
    × (l.image ≡ round_stored l.r (length l.yielded) l.rows l.texts l.initial.image)
