-- `points::serve::passes`: a legal entry that ends before the write's blocks, or begins behind them.
use native.Mathlib.Omega.{arith}
use Prim.Native.Nat.{◌+◌}
use mathlib.Core.Path.{◌≡◌, sym, ◌∙◌}
use mathlib.Core.Bool.{true}
use borrow.Author.Tests.{leb-true, not-false}
use Rattle.words.specs.Edition.{one}
use Rattle.block_log.specs.Entry.{legal}
use Rattle.block_log.proofs.Entry.{Valid, legal-valid}
use mathlib.Core.Logic.{inl, inr}
use Rattle.block_log.proofs.Walk.{never}
use Rattle.points.proofs.serve.passes.Goals as goal
use Rattle.points.proofs.serve.passes.Goals.{Else-not-is_legal}

-- the entry keeps its rules
valid : (c : Else-not-is_legal) → let a = c.args in (legal one a.blocks a.e ≡ true) × Valid one a.blocks a.e
valid c =
    let a = c.args in
    let l : legal one a.blocks a.e ≡ true = sym c.is_legal.ensures ∙ not-false _ c.if-not-is_legal.false-raw in
    (l, legal-valid one a.blocks a.e l)

pub returns-then-blocks-gt1024 : goal.returns-then-blocks-gt1024
returns-then-blocks-gt1024 c e = never e

pub returns-then-not-is_legal : goal.returns-then-not-is_legal
returns-then-not-is_legal c e = never e

pub returns-then-first-span : goal.returns-then-first-span
returns-then-first-span c e = record {
  few = omega (arith, c.if-blocks-gt1024.false);
  legal = (valid (goal.at.returns-then-first-span c).Else-not-is_legal).0;
  apart = inr (omega (arith, c.span.ensures, c.run_first-first.ensures, c.first_virtual-v.ensures.0, c.if-first-span.true));
}

pub overflow_add-result : goal.overflow_add-result
overflow_add-result c = omega (arith, (valid (goal.at.overflow_add-result c).Else-not-is_legal).1.virtual)

pub returns : goal.returns
returns c e = let end = leb-true (c.first_virtual-v.result + c.count.result) c.run_first-first.result e in
    record {
      few = omega (arith, c.if-blocks-gt1024.false);
      legal = (valid (goal.at.returns c).Else-not-is_legal).0;
      apart = inl (omega (arith, end, c.count.ensures, c.run_first-first.ensures, c.first_virtual-v.ensures.0));
    }
