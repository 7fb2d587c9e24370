-- `points::serve::copied_word`: the word of a block that lies inside is read where the block begins.
use mathlib.Core.Path.{sym}
use Rattle.points.proofs.Rows.{copied_none, copied-inside}
use Rattle.points.proofs.serve.copied_word.Goals as goal

pub returns-then-b-eq0 : goal.returns-then-b-eq0
returns-then-b-eq0 c = let a = c.args in rw c.if-b-eq0.true (sym (copied_none a.image.now a.i))

pub returns : goal.returns
returns c = copied-inside c.args.image.now c.args.b c.args.i c.if-b-eq0.false c.requires.0 c.requires.1
