use mathlib.Core.Path.{◌≡◌}
use Prim.Native.Nat.{◌+◌}
use Rattle.c_lent.specs.Serving.{start_at}
use Rattle.c_lent.proofs.serve.adds_up.Given as goal

abbrev pub invariant-loop-write : goal.invariant-loop-write
invariant-loop-write l = l.left + start_at l.writes l.write-index ≡ l.bytes
