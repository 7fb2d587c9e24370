-- The blocks from the start on to here are blocked, and here is a start's place; a word's clear bits are where a run of n blocks may begin.
use mathlib.Core.Path.{◌≡◌}
use mathlib.Core.Logic.{◌⊎◌}
use Prim.Native.Nat.{◌+◌, ◌*◌, ◌≤◌, ◌<◌}
use Rattle.words.specs.Look.{Resumes, Blocked}
use Rattle.words.proofs.Looks.{Each}
use Rattle.words.proofs.map.next_start.Given as goal

abbrev pub invariant-loop-k : goal.invariant-loop-k
invariant-loop-k l = (l.low < 64) × (64 * l.k ≤ l.blocks + 63) × (l.s ≤ 64 * l.k + l.low) × Each (Blocked l.map l.n) l.s (64 * l.k + l.low) × Resumes l.map (64 * l.k + l.low)
    × ((64 * l.k + l.low ≡ l.s) ⊎ (l.k ≤ l.words) × (l.low ≡ 0))
