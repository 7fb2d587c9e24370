use Prim.Native.Nat.{◌+◌, ◌-◌}
use native.Mathlib.Omega.{arith}
use mathlib.Core.Path.{◌≡◌, refl, sym, ap, ◌∙◌}
use lib.ListN.{length}
use borrow.Author.Rules.{rules}
use Rattle.words.specs.Edition.{one}
use Rattle.points.specs.Batch.{filled_on}
use Rattle.points.proofs.Rows.{prepared-on, filled_none, filled_next}
use Rattle.points.proofs.serve.fill_words.Goals as goal

pub loop-i-preserved : goal.loop-i-preserved
loop-i-preserved c = let l = c.loop-i in
    let a = c.args in
    let same : length c.put_row_word.new.image ≡ length a.image.now = search rules in
    let fewer : a.k + a.m - l.i - 1 ≡ a.k + a.m - (l.i + 1) = omega arith in (
      refl,
      omega arith,
      omega arith,
      l.invariant.3,
      l.invariant.4,
      same,
      λ h t b e.
          let now = prepared-on c.row_at-row.result h t a.k l.i a.m b (e (omega arith)) (omega arith) (omega arith) in
          l.invariant.6 h t b e ∙ filled_next one h t a.text.now l.i (a.k + a.m - l.i) l.image (omega arith)
          ∙ rw fewer (ap (filled_on one h t a.text.now (l.i + 1) (a.k + a.m - (l.i + 1))) (sym (c.put_row_word.ensures h t now))),
    )

pub returns : goal.returns
returns c b = let l = c.loop-i in
    let a = c.args in
    let e = l.invariant.6 a.head a.table.now b (λ s. c.row_at-row.ensures.0 (b.0, omega (arith, b.2))) in
    sym (e ∙ filled_none one a.head a.table.now a.text.now l.i (a.k + a.m - l.i) l.image (omega arith))
