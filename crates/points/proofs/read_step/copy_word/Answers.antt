-- `points::read_step::copy_word` meets its contract: the word lies in one block, and its bytes are that block's up to the file's end, then zeros.
-- Assumes nothing.
use native.Mathlib.Omega.{arith}
use mathlib.Core.Path.{◌≡◌, ◌∙◌}
use Prim.Native.Nat.{◌/◌}
use Rattle.words.specs.Edition.{one, block_bytes}
use Rattle.words.specs.Memory.{memory}
use Rattle.points.specs.Record.{file_at}
use Rattle.points.specs.ReadSteps.{copy_at, copy_from, copy_to}
use Rattle.points.proofs.ReadWords.{Word, word-lies, word_piece, word-front, word_back, word_copied}
use Rattle.points.proofs.read_step.copy_word.Goals as goal
use Rattle.points.proofs.read_step.copy_word.Goals.{After-block, After-max-from, After-min-to}

-- the word's first byte in the range, the one after its last, and its block, in the definition's words
is-from : (c : After-max-from) → c.max-from.result ≡ copy_from c.args.head.write
is-from c = rw c.whole_words.ensures at c.max-from.ensures

is-to : (c : After-min-to) → c.min-to.result ≡ copy_to c.args.head.write
is-to c = rw c.whole_words.ensures at c.min-to.ensures

is_block : (c : After-block) → c.block.result ≡ copy_at c.args.head.write / block_bytes one
is_block c = rw c.whole_words.ensures at c.block.ensures

-- the bytes of the word
lain : (c : After-block) → let a = c.args in
    Word (block_bytes one) a.head.write.offset a.head.write.size c.max-from.result c.max-end.result c.min-to.result
    c.block.result
lain c =
    let a = c.args in
    word-lies one a.head.write a.head.length _ _ _ _ _ c.requires.0.0 c.requires.1 (rw c.whole_words.ensures at c.max-from.ensures) (rw c.whole_words.ensures at c.min-to.ensures)
    c.min.ensures c.max-end.ensures (is_block c)

pub copy_block-requires : goal.copy_block-requires
copy_block-requires c = let k = lain (goal.at.copy_block-requires c).After-block in
    let few = c.requires.0.1 in
    (word_piece k _ c.in_block.ensures, word-front k _ (omega arith))

pub overflow_sub-to : goal.overflow_sub-to
overflow_sub-to c = (lain (goal.at.overflow_sub-to c).After-block).high

pub clear-requires : goal.clear-requires
clear-requires c = let k = lain (goal.at.clear-requires c).After-block in
    let few = c.requires.0.1 in
    word_back k _ (omega arith)

pub returns : goal.returns
returns c = let a = c.args in
    word_copied one (memory one a.image.now) (file_at a.head a.table.now) a.head.write a.text.now _ _ _ _ _ _ _ _ _
    (is-from (goal.at.returns c).After-max-from) (is-to (goal.at.returns c).After-min-to) c.min.ensures c.max-end.ensures (lain (goal.at.returns c).After-block)
    c.in_block.ensures (c.from-b.ensures ∙ c.mapped.ensures) c.copy_block.ensures c.clear.ensures
