-- A word with its shifted self over it, none, one or two times.
use mathlib.Core.Path.{◌≡◌, ap}
use Prim.Native.Nat.{◌-◌, min}
use native.Mathlib.Omega.{arith}
use Rattle.words.specs.Look.{blocked_in}
use Rattle.words.proofs.map.blocked.Goals as goal

pub returns-then-n-lt2 : goal.returns-then-n-lt2
unfolding blocked_in
returns-then-n-lt2 c = let e : 0 ≡ min (c.args.n - 1) 2 = omega arith in ap (blocked_in c.args.w) e

pub returns-then-n-lt3 : goal.returns-then-n-lt3
unfolding blocked_in
returns-then-n-lt3 c = let a = c.args in let e : 1 ≡ min (a.n - 1) 2 = omega arith in ap (blocked_in a.w) e

pub returns : goal.returns
unfolding blocked_in
returns c = let a = c.args in let e : 2 ≡ min (a.n - 1) 2 = omega arith in ap (blocked_in a.w) e
