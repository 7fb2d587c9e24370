-- `points::step::store`: a word counted from the block's first on is the definition's word of a later block, in the image and in its place.
use mathlib.Core.Path.{sym, ◌∙◌}
use Rattle.words.specs.Edition.{one}
use Rattle.words.specs.Memory.{after}
use Rattle.words.proofs.Sizes.{from_block}
use Rattle.points.specs.Plan.{stored_at}
use Rattle.points.proofs.Planned.{word-from-put}
use Rattle.points.proofs.step.store.Goals as goal

pub returns-then-stores : goal.returns-then-stores
unfolding after stored_at
returns-then-stores c = let if1 = c.if-stores in
    let store = c.store in
    let a = c.args in
    let taken = sym c.stores.ensures ∙ if1.true in
    record {
      stored = store.ensures ∙ rw taken (word-from-put one a.image.now a.block a.word a.value);
      place = rw taken (from_block one a.block a.word);
    }

pub returns : goal.returns
unfolding after stored_at
returns c = let left = sym c.stores.ensures ∙ c.if-stores.false in record { stored = rw left; place = rw left }
