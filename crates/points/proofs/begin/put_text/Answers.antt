use native.Mathlib.Omega.{arith}
use mathlib.Core.Path.{◌≡◌, refl, ◌∙◌, ap}
use lib.ListN.{length}
use lib.Seq.{paste}
use Rattle.points.specs.Record.{no_text}
use Rattle.points.proofs.Begins.{text-next, text-end}
use Rattle.points.proofs.begin.put_text.Goals as goal

pub bounds-kept-i : goal.bounds-kept-i
bounds-kept-i c = let h = c.requires in omega arith

pub loop-i-preserved : goal.loop-i-preserved
loop-i-preserved c = let a = c.args in
    let l = c.loop-i in
    (omega arith, refl, text-next a.text.now l.i l.kept (omega arith) c.requires l.invariant.2)

pub returns : goal.returns
returns c = let a = c.args in
    let l = c.loop-i in
    let e : l.i ≡ length a.text.now = omega arith in
    l.invariant.2 ∙ ap (paste no_text 0 a.text.now) e ∙ text-end a.text.now
