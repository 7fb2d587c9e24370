-- `points::fill::new_word`: every byte is of the text, or some are copied.
use Prim.Native.Nat.{ℕ, ◌+◌, ◌*◌}
use mathlib.Core.Path.{sym, ap, ◌∙◌}
use native.Mathlib.Omega.{arith}
use Rattle.words.specs.Edition.{one}
use Rattle.words.specs.Memory.{memory}
use Rattle.block_log.specs.Replay.{mapped_byte}
use Rattle.points.proofs.NewWord.{new_word_lem, new-word-text}
use Rattle.points.proofs.fill.new_word.Goals as goal

pub returns-then-at-end : goal.returns-then-at-end
returns-then-at-end c = let a = c.args in
    c.text_word.ensures
    ∙ sym (new-word-text one (memory one a.image.now) a.head a.table.now a.text.now a.k c.lead-lead.result c.lead-lead.ensures
    (omega arith) (omega arith))

pub returns : goal.returns
returns c = let a = c.args in
    c.mixed_word.ensures
    ∙ sym (new_word_lem one (memory one a.image.now) a.head a.table.now a.text.now a.k c.mapped_word-copied.result c.lead-lead.result
    (c.run_first.result + c.block.result) c.word.result c.lead-lead.ensures (omega arith) (omega arith)
    (λ j l. c.mapped_word-copied.ensures j l
    ∙ ap (λ (b : ℕ). mapped_byte (memory one a.image.now) b (8 * c.word.result + j)) c.from.ensures))
