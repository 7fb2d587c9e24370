-- `points::fill::copied_from`: the place itself where it lies before the text; otherwise the first place from which a word reaches past the text.
use native.Mathlib.Omega.{arith}
use Rattle.words.specs.Edition.{one}
use Rattle.points.proofs.NextWord.{first-here, first-behind}
use Rattle.points.proofs.fill.copied_from.Goals as goal

pub returns-then-from-lead : goal.returns-then-from-lead
returns-then-from-lead c = let a = c.args in first-here one a.write a.from (omega arith)

pub returns : goal.returns
returns c = let a = c.args in
    first-behind one a.write a.from c.max.result (omega arith) (omega arith)
