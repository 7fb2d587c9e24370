-- `points::fill::mixed_byte`: one law for each exit: before the text, behind it, of it.
use Prim.Native.Nat.{◌-◌}
use mathlib.Core.Path.{sym, ◌∙◌}
use native.Mathlib.Omega.{arith}
use Rattle.points.proofs.NewWord.{mixed-text, mixed-before, mixed-after, byte-lt}
use Rattle.points.proofs.fill.mixed_byte.Goals as goal

pub returns-then-p-lead : goal.returns-then-p-lead
returns-then-p-lead c = let a = c.args in
    let e = c.byte.ensures in (
      e ∙ sym (mixed-before a.copied a.text.now a.lead a.end a.at a.p c.if-p-lead.true),
      omega (arith, e, byte-lt a.copied (a.p - a.at)),
    )

pub returns-then-end-p : goal.returns-then-end-p
returns-then-end-p c = let a = c.args in
    let e = c.byte-then-end-p.ensures in (
      e ∙ sym (mixed-after a.copied a.text.now a.lead a.end a.at a.p c.if-end-p.true),
      omega (arith, e, byte-lt a.copied (a.p - a.at)),
    )

pub returns : goal.returns
returns c = let a = c.args in
    (c.from.ensures ∙ sym (mixed-text a.copied a.text.now a.lead a.end a.at a.p (omega arith) (omega arith)), omega arith)
