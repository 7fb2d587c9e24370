use Prim.Native.Nat.{ℕ}
use mathlib.Core.Path.{◌≡◌, refl, sym, ap, ◌∙◌, subst}
use native.Mathlib.Omega.{arith}
use lib.ListN.{length}
use borrow.Author.Tests.{not-true, not-false}
use Rattle.words.proofs.Tests.{no_true}
use Rattle.points.specs.Batch.{rounds_stored, RowsFit}
use Rattle.points.proofs.Rows.{rounds-none, rounds-next}
use Rattle.points.proofs.serve.fill_rounds.Goals as goal

pub returns-then-not-rows_fit : goal.returns-then-not-rows_fit
returns-then-not-rows_fit c h = absurd (no_true (c.rows_fit.ensures.1 h) (not-true _ c.if-not-rows_fit.true-raw))

pub loop-r-init : goal.loop-r-init
loop-r-init c = let a = c.args in
    (omega arith, refl, rounds-none (length a.texts.now) a.rows.now a.texts.now a.image.now)

pub fill_round-requires : goal.fill_round-requires
fill_round-requires c = let l = c.loop-r in
    let a = c.args in
    let fit = c.rows_fit.ensures.0 (not-false _ c.if-not-rows_fit.false-raw) in
    (subst (λ (n : ℕ). RowsFit n a.m a.rows.now a.texts.now) (sym l.invariant.1) fit, omega arith)

pub loop-r-preserved : goal.loop-r-preserved
loop-r-preserved c = let l = c.loop-r in
    let a = c.args in (
      omega arith,
      c.image-1.given ∙ l.invariant.1,
      rounds-next l.r (length a.texts.now) a.rows.now a.texts.now a.image.now l.image _ l.invariant.2
          c.fill_round.ensures,
    )

pub shape_of-image : goal.shape_of-image
shape_of-image c = c.loop-r.invariant.1

pub returns : goal.returns
returns c h = let l = c.loop-r in
    let a = c.args in
    let e : l.r ≡ a.m = omega arith in
    l.invariant.2 ∙ ap (λ (n : ℕ). rounds_stored n (length a.texts.now) a.rows.now a.texts.now a.image.now) e
