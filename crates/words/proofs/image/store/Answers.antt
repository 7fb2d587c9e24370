-- A store in the part that begins at the block is a store in the whole image.
use Prim.Native.Nat.{◌*◌}
use Rattle.words.proofs.Memory.{part-put}
use Rattle.words.proofs.image.store.Goals as goal

pub returns-then-at-image : goal.returns-then-at-image
returns-then-at-image c = let a = c.args in
    part-put (a.b * 64) a.image.now c.put_word.new.part a.i a.value c.put_word.ensures
