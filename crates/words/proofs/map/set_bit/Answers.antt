-- The word is stored with its bit changed; past the map nothing is stored.
use mathlib.Core.Path.{◌∙◌}
use Rattle.words.proofs.BlockMap.{set_at}
use Rattle.words.proofs.map.set_bit.Goals as goal

pub returns : goal.returns
returns c = let a = c.args in
    c.put_word.ensures ∙ set_at a.on a.map.now a.k a.j c.with_bit-w.result c.requires (rw c.word.ensures at c.with_bit-w.ensures)
