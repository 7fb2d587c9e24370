use mathlib.Core.Path.{◌≡◌, refl, sym, ◌∙◌}
use mathlib.Core.List.{List}
use Prim.Native.Nat.{ℕ, ◌/◌, ◌%◌}
use native.Mathlib.Omega.{arith}
use lib.ListN.{get_or}
use Rattle.words.specs.Memory.{byte_in}
use Rattle.words.specs.Word.{byte_of}
use Rattle.inspection.proofs.Searches.{byte_next, byte-here, byte-over}
use Rattle.inspection.proofs.faults.first_byte.Goals as goal

-- the byte looked at is the block's
byte-is : (part : List ℕ) (k i w j y : ℕ) → i ≡ k / 8 → w ≡ get_or part i 0 → j ≡ k % 8 → y ≡ byte_of w j → y ≡ byte_in part k
byte-is part k i w j y ei ew ej ey = ey ∙ rw (ew, ei, ej)

pub loop-k-init : goal.loop-k-init
loop-k-init c = (omega arith, refl)

pub returns-then-byte-ne0 : goal.returns-then-byte-ne0
returns-then-byte-ne0 c = let a = c.args in
    let l = c.loop-k in
    let e = byte-is a.part.now l.k _ _ _ _ c.whole_words.ensures c.word-w.ensures c.byte.ensures c.byte-in-loop-k.ensures in
    (sym (l.invariant.1 ∙ byte-here a.part.now l.k 512 (omega arith) (λ z. c.if-byte-ne0.true (e ∙ z))), omega arith)

pub loop-k-preserved : goal.loop-k-preserved
loop-k-preserved c = let a = c.args in
    let l = c.loop-k in
    let e = byte-is a.part.now l.k _ _ _ _ c.whole_words.ensures c.word-w.ensures c.byte.ensures c.byte-in-loop-k.ensures in
    (omega arith, l.invariant.1 ∙ byte_next a.part.now l.k 512 (omega arith) (sym e ∙ c.if-byte-ne0.false))

pub returns : goal.returns
returns c = let a = c.args in
    let l = c.loop-k in
    let z : l.k ≡ 512 = omega (arith, l.invariant.0) in
    (sym (l.invariant.1 ∙ byte-over a.part.now l.k 512 c.loop-k-test.false ∙ z), omega arith)
