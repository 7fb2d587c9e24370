-- Laid out, then two slots stored.
use Prim.Native.Nat.{ℕ}
use mathlib.Core.Path.{◌∙◌, ap}
use mathlib.Core.List.{List}
use lib.ListN.{set}
use Rattle.small.proofs.Image.{image-is}
use Rattle.small.proofs.image_with.Goals as goal

pub returns : goal.returns
returns c = let a = c.args in
    c.store-2.ensures ∙ ap (λ (l : List ℕ). set l 67 a.second) c.store.ensures
    ∙ image-is c.lay_out.new.image a.first a.second c.lay_out.ensures.1
