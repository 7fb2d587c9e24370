use mathlib.Core.Path.{◌≡◌, refl, ap, ◌∙◌}
use mathlib.Core.List.{List, ◌++◌}
use Prim.Native.Nat.{ℕ, ◌*◌}
use native.Mathlib.Omega.{arith}
use lib.ListN.{get_or, take, drop, drop_of_length-le}
use Rattle.std.proofs.Common.{append-nil}
use Rattle.std.proofs.lemmas.List.{length-take-le}
use Rattle.words.specs.Logic.{list_from}
use Rattle.words.specs.Word.{from_bytes, words_of}
use Rattle.words.proofs.Logic.{list_from-next}
use Rattle.words.proofs.bytes.words_of.Goals as goal

pub loop-i-init : goal.loop-i-init
loop-i-init c = (length-take-le c.min-n.result c.args.words.now (omega arith), refl)

pub loop-i-preserved : goal.loop-i-preserved
loop-i-preserved c = let l = c.loop-i in
    let a = c.args in
    let w : ℕ → ℕ = λ k. from_bytes (list_from (8 * k) 8 (λ j. get_or a.bytes.now j 0)) in (
      l.invariant.0,
      list_from-next w l.word-items (take c.min-n.result a.words.now) l.i c.word_at.result l.invariant.1 c.word_at.ensures (omega arith),
    )

-- all of the front are made, and nothing of it is left
pub returns : goal.returns
returns c = let n = c.min-n.result in
    let words = c.args.words.now in
    let e : c.loop-i.i ≡ n = omega arith in
    let front : c.loop-i.word-items ≡ words_of c.args.bytes.now n = (rw e at c.loop-i.invariant.1)
    ∙ ap (λ (xs : List ℕ). words_of c.args.bytes.now n ++ xs) (drop_of_length-le (take n words) (omega (arith, c.loop-i.invariant.0))) ∙ append-nil (words_of c.args.bytes.now n) in
    (omega arith, ap (λ (xs : List ℕ). xs ++ drop n words) front)
