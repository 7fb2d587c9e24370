-- Where the walk from the start is not broken, neither is the walk from here, and its entries taken in on what is there now are all of them taken in.
use mathlib.Core.Path.{◌≡◌}
use Prim.Native.Nat.{ℕ, ◌-◌, ◌<◌, ◌^◌}
use Rattle.words.specs.Edition.{one}
use Rattle.words.specs.Memory.{memory}
use Rattle.block_log.specs.CatchUp.{ahead}
use Rattle.block_log.specs.Replay.{replay_on}
use Rattle.block_log.proofs.FromPlace.{Spot, onward}
use Rattle.block_log.proofs.CatchUp.{Unbroken}
use Rattle.block_log.proofs.ahead.catch_up.Given as goal

-- where a turn begins
abbrev pub spot : ℕ → ℕ → ℕ → Spot
spot b slot entered = record { block = b; slot = slot; entered = entered }

abbrev pub invariant-loop-part : goal.invariant-loop-part
invariant-loop-part l = (l.b < 2 ^ 32) × (l.slot < 2 ^ 64) × (l.entered < 2 ^ 32)
    × (Unbroken one l.blocks (ahead one (memory one l.image) l.blocks (record { block = l.initial.b; slot = l.initial.slot }))
    → Unbroken one l.blocks (onward one (memory one l.image) l.blocks (spot l.b l.slot l.entered))
    × (replay_on one (record { table = l.initial.table; size = l.size }) (ahead one (memory one l.image) l.blocks (record { block = l.initial.b; slot = l.initial.slot })).entries
    ≡ replay_on one (record { table = l.table; size = l.end }) (onward one (memory one l.image) l.blocks (spot l.b l.slot l.entered)).entries))

abbrev pub decreases-loop-part : goal.decreases-loop-part
decreases-loop-part l = l.blocks - l.entered
