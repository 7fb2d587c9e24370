-- Opening gives the number; a wrong size is all there is to say, else the image is read.
use mathlib.Core.Path.{sym, ap, ◌∙◌}
use Rattle.words.specs.Edition.{one}
use Rattle.words.specs.Memory.{memory, block_count}
use Rattle.block_log.specs.declared.Opened.{Opened}
use Rattle.block_log.specs.Opening.{number_of}
use Rattle.block_log.proofs.Replies.{opened-number}
use Rattle.inspection.specs.Inspecting.{unread, inspected_with}
use Rattle.inspection.proofs.Whole.{inspects, wrong, right, refusal-room, fault-room}
use Rattle.inspection.proofs.inspect.Goals as goal

pub returns-then-wrong_size : goal.returns-then-wrong_size
returns-then-wrong_size c = let words = c.args.image.now in
    let before = c.args.scratch.now in
    inspects words before _ _ (c.unread.ensures ∙ ap unread c.size_fault.ensures
    ∙ sym (wrong words before (sym c.wrong_size.ensures ∙ c.if-wrong_size.true))) c.open-opened.ensures.1

pub inspect_blocks-requires : goal.inspect_blocks-requires
inspect_blocks-requires c = let words = c.args.image.now in
    let scratch = c.args.scratch.now in
    let number = ap (λ (o : Opened). number_of o.reply) c.open-opened.ensures.0
    ∙ opened-number one words scratch in
    (sym c.wrong_size.ensures ∙ c.if-wrong_size.false, number ∙ refusal-room words scratch _ (sym c.open-opened.auto.scratch))

pub returns : goal.returns
returns c = let words = c.args.image.now in
    let before = c.args.scratch.now in
    let size = sym c.wrong_size.ensures ∙ c.if-wrong_size.false in
    inspects words before _ _ (c.inspect_blocks.ensures ∙ ap (inspected_with one (block_count one words) (memory one words)) (sym (fault-room words before _ (sym c.open-opened.auto.scratch)))
    ∙ sym (right words before size)) c.open-opened.ensures.1
