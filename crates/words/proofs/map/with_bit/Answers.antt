-- A bit is set by `|` with a shifted 1, and cleared by `&` with all but it.
use mathlib.Core.Path.{ap, sym, ◌∙◌}
use mathlib.Core.Bool.{Bool}
use native.Mathlib.Omega.{arith}
use Rattle.words.specs.BlockMap.{with_bit}
use Rattle.words.proofs.WithBit.{bit-is-set, bit-is-cleared}
use Rattle.words.proofs.map.with_bit.Goals as goal

pub returns-then-on : goal.returns-then-on
returns-then-on c = let a = c.args in bit-is-set 64 a.w a.j c.requires ∙ ap (λ (x : Bool). with_bit x a.w a.j) (sym c.if-on.true)

pub returns-else-on : goal.returns-else-on
returns-else-on c = let a = c.args in
    bit-is-cleared 64 a.w a.j c.requires (omega arith) ∙ ap (λ (x : Bool). with_bit x a.w a.j) (sym c.if-on.false)
