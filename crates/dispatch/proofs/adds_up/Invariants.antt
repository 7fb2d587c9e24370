use mathlib.Core.Path.{◌≡◌}
use Prim.Native.Nat.{◌+◌}
use lib.ListN.{drop}
use Rattle.dispatch.specs.Dispatch.{sizes_of}
use Rattle.dispatch.proofs.adds_up.Given as goal

-- the sizes so far are `bytes` less `left`
abbrev pub invariant-loop-write : goal.invariant-loop-write
invariant-loop-write l = sizes_of l.writes + l.left ≡ sizes_of (drop l.write-index l.writes) + l.bytes
