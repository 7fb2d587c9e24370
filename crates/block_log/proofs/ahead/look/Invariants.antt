-- What was gathered before and the walk from here on give what the walk from the start shows; each way on or out is a law of a turn.
use mathlib.Core.Path.{◌≡◌}
use Prim.Native.Nat.{◌-◌, ◌<◌, ◌^◌, ℕ}
use Rattle.words.specs.Edition.{one}
use Rattle.words.specs.Memory.{memory}
use Rattle.block_log.specs.CatchUp.{ahead}
use Rattle.block_log.specs.Look.{lookahead_of}
use Rattle.block_log.proofs.FromPlace.{Spot, onward}
use Rattle.block_log.proofs.Look.{lookahead_with}
use Rattle.block_log.proofs.ahead.look.Given as goal

-- where a turn begins
abbrev pub spot : ℕ → ℕ → ℕ → Spot
spot b slot entered = record { block = b; slot = slot; entered = entered }

abbrev pub invariant-loop-slot : goal.invariant-loop-slot
invariant-loop-slot l =
    (l.b < 2 ^ 32) × (l.slot < 2 ^ 32) × (l.entered < 2 ^ 32)
    × (lookahead_of one l.blocks l.x l.y (ahead one (memory one l.image) l.blocks (record { block = l.initial.b; slot = l.initial.slot }))
    ≡ lookahead_with one l.blocks l.x l.y l.wrong l.first l.last l.entered (onward one (memory one l.image) l.blocks (spot l.b l.slot l.entered)))

abbrev pub decreases-loop-slot : goal.decreases-loop-slot
decreases-loop-slot l = l.blocks - l.entered
