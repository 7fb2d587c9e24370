-- `c_lent::serve::words_left`: in zeroing what is left of the log block, in filling what is left of the block of the run. Assumes nothing.
use mathlib.Core.Path.{◌≡◌, subst}
use mathlib.Core.Logic.{inr}
use Prim.Native.Nat.{ℕ, ◌-◌, ◌%◌}
use native.Mathlib.Omega.{arith}
use Rattle.c_lent.specs.Batch.{PlainAt}
use Rattle.c_lent.proofs.WordsLeft.{fills-left}
use Rattle.c_lent.proofs.batch.words_left.Goals as goal

pub returns-then-k-lt64 : goal.returns-then-k-lt64
returns-then-k-lt64 c = λ h eo es ep ek l. inr (omega arith, omega arith)

pub returns-then-phase-eq5 : goal.returns-then-phase-eq5
returns-then-phase-eq5 c = λ h eo es ep ek l. absurd (omega arith)

pub returns-then-phase-ne1 : goal.returns-then-phase-ne1
returns-then-phase-ne1 c = λ h eo es ep ek l. absurd (omega arith)

pub returns-then-words-k : goal.returns-then-words-k
returns-then-words-k c = λ h eo es ep ek l. absurd (omega arith)

pub returns : goal.returns
returns c = let s = c.span in
    let a = c.args in
    let same : 64 - a.k % 64 ≡ 64 - c.word.result = omega (arith, c.word.ensures) in
    λ h eo es ep ek l. subst (λ (m : ℕ). PlainAt m h) same (fills-left h s.result a.offset a.size a.k s.ensures eo es (omega arith) ek (omega arith))
