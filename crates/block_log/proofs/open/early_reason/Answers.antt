-- 1, 2 and 3, the lowest first; then those of the chain.
use mathlib.Core.Path.{◌∙◌, sym}
use borrow.Author.Tests.{le-ltb, lt-ltb}
use Rattle.block_log.specs.Parts.{early}
use Rattle.block_log.proofs.open.early_reason.Goals as goal

pub returns-then-wrong_size : goal.returns-then-wrong_size
unfolding early
returns-then-wrong_size c = let w1 = sym c.wrong_size.ensures ∙ c.if-wrong_size.true in rw w1

pub returns-then-room-lt1024 : goal.returns-then-room-lt1024
unfolding early
returns-then-room-lt1024 c = let w1 = sym c.wrong_size.ensures ∙ c.if-wrong_size.false in
    let w2 = lt-ltb _ _ c.if-room-lt1024.true in
    rw (w1, w2)

pub returns-then-bad_superblock : goal.returns-then-bad_superblock
unfolding early
returns-then-bad_superblock c = let w1 = sym c.wrong_size.ensures ∙ c.if-wrong_size.false in
    let w2 = le-ltb _ _ c.if-room-lt1024.false in
    let w3 = sym c.bad_superblock.ensures ∙ c.if-bad_superblock.true in
    rw (w1, w2, w3)

pub returns : goal.returns
unfolding early
returns c = let w1 = sym c.wrong_size.ensures ∙ c.if-wrong_size.false in
    let w2 = le-ltb _ _ c.if-room-lt1024.false in
    let w3 = sym c.bad_superblock.ensures ∙ c.if-bad_superblock.false in
    let blocks = c.whole_blocks.ensures in
    rw (w1, w2, w3, ← blocks) c.chain_reason.ensures
