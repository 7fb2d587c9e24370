-- The part filled is as long as it is to be.
use mathlib.Core.Path.{ap, ◌∙◌}
use mathlib.Core.List.{List, ◌++◌}
use Prim.Native.Nat.{ℕ}
use lib.ListN.{drop, replicate}
use Rattle.std.proofs.lemmas.List.{length-take-le}
use Rattle.block_log.proofs.open.clear.Goals as goal

pub returns : goal.returns
returns c = let s = c.args.scratch.now in
    ap (λ (xs : List ℕ). xs ++ drop 1024 s) (c.fill.ensures.after (λ y e. e) ∙ ap (λ (n : ℕ). replicate n 0) (length-take-le 1024 s c.requires))
