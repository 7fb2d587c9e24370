-- Two blocks of zeros, then the mark and the first index; or the image as it came.
use mathlib.Core.Path.{◌∙◌, sym}
use native.Mathlib.Omega.{arith}
use Rattle.words.proofs.Memory.{size-facts}
use Rattle.block_log.proofs.LaidOut.{lay-refused, lay_done}
use Rattle.words.specs.Edition.{one}
use Rattle.block_log.proofs.layout.lay_out.Goals as goal

pub returns-then-wrong_size : goal.returns-then-wrong_size
returns-then-wrong_size c = lay-refused one c.args.image.now (sym c.wrong_size.ensures ∙ c.if-wrong_size.true)

pub zero_front-requires : goal.zero_front-requires
zero_front-requires c = let z = size-facts one c.args.image.now (sym c.wrong_size.ensures
    ∙ c.if-wrong_size.false) in
    omega (arith, z.1)

pub returns : goal.returns
returns c = let a = c.args in
    lay_done one a.image.now c.zero_front.new.image c.put_word.new.part c.put_word-2.new.part
    (sym c.wrong_size.ensures ∙ c.if-wrong_size.false) c.zero_front.ensures c.put_word.ensures c.put_word-2.ensures
