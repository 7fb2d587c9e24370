-- `points::read::clear` meets its contract: a part is filled. Assumes nothing.
use Prim.Native.Nat.{ℕ, ◌+◌, ◌-◌, ◌≤◌}
use mathlib.Core.Path.{ap, ◌∙◌}
use mathlib.Core.List.{List}
use native.Mathlib.Omega.{arith}
use lib.ListN.{length, replicate}
use lib.Seq.{sets}
use Rattle.points.proofs.Copied.{part-put, part-length, zeros-list}
use Rattle.points.proofs.read.clear.Goals as goal

pub returns : goal.returns
returns c = let a = c.args in
    let r = c.requires in
    let few : a.at + (a.at + a.n - a.at) ≤ length a.buffer.now = omega (arith, r) in
    let size = part-length a.at (a.at + a.n - a.at) a.buffer.now few in
    part-put a.at (a.at + a.n - a.at) a.buffer.now c.fill.new.self (c.fill.ensures.len ∙ size) few
    ∙ ap (λ (xs : List ℕ). sets a.buffer.now a.at xs)
    (c.fill.ensures.after (λ y e. cc) ∙ ap (λ (n : ℕ). replicate {A = ℕ} n 0) (size ∙ omega arith) ∙ zeros-list a.n 0)
