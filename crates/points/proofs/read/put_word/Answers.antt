-- `points::read::put_word` meets its contract: a part of eight bytes is written. Assumes nothing.
use Prim.Native.Nat.{ℕ, ◌+◌, ◌-◌, ◌≤◌}
use mathlib.Core.Path.{ap, ◌∙◌}
use mathlib.Core.List.{List}
use native.Mathlib.Omega.{arith}
use lib.ListN.{length}
use lib.Seq.{sets}
use Rattle.points.proofs.Copied.{part-put, part-length, low_bytes}
use Rattle.points.proofs.read.put_word.Goals as goal

pub returns : goal.returns
returns c = let a = c.args in
    let r = c.requires in
    let few : a.at + (a.at + 8 - a.at) ≤ length a.buffer.now = omega (arith, r) in
    let size = part-length a.at (a.at + 8 - a.at) a.buffer.now few in
    part-put a.at (a.at + 8 - a.at) a.buffer.now c.copy_from_slice.new.self (c.copy_from_slice.ensures.len ∙ size) few
    ∙ ap (λ (xs : List ℕ). sets a.buffer.now a.at xs)
    (c.copy_from_slice.ensures.after ∙ c.to_le_bytes.ensures ∙ low_bytes a.w)
