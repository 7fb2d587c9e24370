-- `points::fill::mapped_word`: nothing is mapped, and every byte is 0; or the bytes are those of the block.
use Prim.Native.Nat.{ℕ, ◌+◌, ◌*◌}
use mathlib.Core.Path.{◌≡◌, ap, ◌∙◌}
use mathlib.Core.List.{List}
use lib.ListN.{get_or}
use Rattle.words.specs.Edition.{one}
use Rattle.words.specs.Memory.{memory, word_at}
use Rattle.points.proofs.NewWord.{mapped-none, mapped-word}
use Rattle.points.proofs.fill.mapped_word.Goals as goal

pub returns-then-b-eq0 : goal.returns-then-b-eq0
returns-then-b-eq0 c j l = let a = c.args in rw c.if-b-eq0.true (mapped-none (memory one a.image.now) (8 * a.i + j) j)

pub returns : goal.returns
returns c j l = let a = c.args in
    let e : c.word.result ≡ word_at (memory one a.image.now) a.b a.i =
    c.word.ensures ∙ ap (λ (part : List ℕ). get_or part a.i 0) c.block.ensures in
    rw e (mapped-word (memory one a.image.now) a.b a.i j c.if-b-eq0.false l)
