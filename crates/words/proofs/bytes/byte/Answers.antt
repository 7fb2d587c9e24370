-- A byte by shift and mask; from byte 8 on a word below 2 ^ 64 has none.
use mathlib.Core.Path.{ap, sym}
use Prim.Native.Nat.{ℕ, ◌*◌, ◌%◌, ◌^◌, ◌<◌}
use native.Mathlib.Nat.{div-eq_of_lt, lt_of_lt_of_le}
use native.Mathlib.Omega.{arith}
use lib.Pow.{pow_mono}
use Rattle.words.proofs.bytes.byte.Goals as goal

pub returns-then-j-gt7 : goal.returns-then-j-gt7
returns-then-j-gt7 c = let w = c.args.w in
    let j = c.args.j in
    let l : w < 2 ^ (8 * j) = lt_of_lt_of_le {m = 2 ^ 64} (omega arith) (pow_mono {i = 64} (omega arith)) in
    sym (ap (λ (x : ℕ). x % 2 ^ 8) (div-eq_of_lt l))
