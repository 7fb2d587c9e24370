-- `points::serve::is_empty`: the word read is that of the definition's block.
use mathlib.Core.Path.{sym, ap, ◌∙◌}
use mathlib.Core.List.{List}
use Prim.Native.Nat.{ℕ}
use native.Mathlib.Omega.{arith}
use lib.ListN.{get_or}
use borrow.Author.Tests.{eqb-true}
use Rattle.block_log.proofs.Walk.{never}
use Rattle.points.proofs.serve.is_empty.Goals as goal

pub returns-then-place-gt63 : goal.returns-then-place-gt63
returns-then-place-gt63 c e = never e

pub returns : goal.returns
returns c e = let slot = c.args.place.slot in (
  omega (arith, c.if-place-gt63.false),
  sym (c.word.ensures ∙ ap (λ (xs : List ℕ). get_or xs slot 0) c.block.ensures) ∙ eqb-true c.word.result 0 e,
)
