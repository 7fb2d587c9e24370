-- `points::serve::put_next`: a store in the part that begins at the run is a store in the whole image.
use Prim.Native.Nat.{ℕ, ◌+◌, ◌*◌}
use mathlib.Core.Path.{◌≡◌, ap, ◌∙◌}
use native.Mathlib.Omega.{arith}
use lib.ListN.{set}
use Rattle.words.proofs.Memory.{part-put}
use Rattle.points.proofs.serve.put_next.Goals as goal

pub next_word-word-requires : goal.next_word-word-requires
next_word-word-requires c = c.requires

pub returns : goal.returns
returns c = let put = c.put_word in
    let found = c.next_word-word in
    let a = c.args in
    let at : 64 * a.row.run + a.k ≡ a.row.run * 64 + a.k = omega arith in
    part-put (64 * a.row.run) a.image.now put.new.part a.k found.result put.ensures
    ∙ ap (λ (n : ℕ). set a.image.now n found.result) at ∙ ap (set a.image.now (a.row.run * 64 + a.k)) found.ensures
