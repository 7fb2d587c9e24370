-- A block inside is the part of 64 words from 64 b on; outside there is none.
use mathlib.Core.Path.{◌≡◌, sym}
use Prim.Native.Nat.{◌+◌, ◌*◌, ◌-◌}
use native.Mathlib.Omega.{arith}
use Rattle.words.proofs.Memory.{block-part, block-outside}
use Rattle.words.specs.Edition.{one}
use Rattle.words.proofs.image.block.Goals as goal

pub returns-then-b-whole_blocks : goal.returns-then-b-whole_blocks
returns-then-b-whole_blocks c = let a = c.args in
    let e : a.b * 64 + 64 - a.b * 64 ≡ 64 = omega arith in
    rw e (sym (block-part one a.image.now a.b (omega arith)))

pub returns : goal.returns
returns c = let a = c.args in sym (block-outside one a.image.now a.b (omega arith))
