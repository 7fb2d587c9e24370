-- Block b is bit b % 64 of map word b / 64.
use mathlib.Core.Path.{◌≡◌, ap, ◌∙◌}
use Prim.Native.Nat.{ℕ, ◌+◌, ◌*◌, ◌/◌, ◌%◌}
use native.Mathlib.Omega.{arith}
use Rattle.words.specs.BlockMap.{set_block}
use Rattle.words.proofs.map.set_block.Goals as goal

pub returns : goal.returns
returns c = let a = c.args in
    let e : 64 * (a.b / 64) + a.b % 64 ≡ a.b = omega arith in
    c.set_bit.ensures ∙ ap (λ (b : ℕ). set_block a.on a.map.now b) e
