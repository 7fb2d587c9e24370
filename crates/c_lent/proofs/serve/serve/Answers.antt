use mathlib.Core.Path.{refl, sym, ◌∙◌}
use native.Mathlib.Omega.{arith}
use lib.ListN.{length}
use Rattle.block_log.proofs.Replies.{ok-none, err-number, number-not-0}
use Rattle.c_lent.specs.Numbers.{shared_as}
use Rattle.c_lent.specs.Serving.{common_lent}
use Rattle.c_lent.proofs.ServeReasons.{Each, is-each}
use Rattle.c_lent.proofs.Serves.{serve-refused, serve-done}
use Rattle.c_lent.proofs.serve.serve.Goals as goal
use Rattle.c_lent.proofs.serve.serve.Goals.{In_default}

-- what is lent where neither 26 nor 27 holds
each : (c : In_default) → let a = c.args in
    Each (length a.heads.now) a.heads.now a.tables.now a.texts.now a.answers.now a.writes.now a.bytes.now
each c =
    let a = c.args in
    is-each a.heads.now a.tables.now a.texts.now a.answers.now a.writes.now a.bytes.now
    (sym (ok-none c.reason-refused.ensures c.in_default.is))

pub returns-in-Err : goal.returns-in-Err
returns-in-Err c = let a = c.args in
    serve-refused (common_lent a.image.now (shared_as a.shared.now a.taken.now)) a.heads.now a.tables.now a.texts.now a.answers.now a.writes.now a.bytes.now _
    (c.into.ensures ∙ err-number c.reason-refused.ensures c.in-Err.is) (λ z. number-not-0 _ (sym c.into.ensures ∙ z))

pub begin_all-requires : goal.begin_all-requires
begin_all-requires c = let x = each (goal.at.begin_all-requires c).In_default in
    (x.tables-are, x.texts-are, x.answers_are, x.writes_are, x.bytes_are)

pub all_rounds-requires : goal.all_rounds-requires
all_rounds-requires c = let x = each (goal.at.all_rounds-requires c).In_default in
    let h = c.heads-1.given in (
      record {
        lengths = (refl, c.tables-1.given ∙ x.tables-are ∙ sym h, c.texts-1.given ∙ x.texts-are ∙ sym h, c.answers-1.given ∙ x.answers_are ∙ sym h);
        fits = λ i k g. c.begin_all.ensures.1 i (omega (arith, h, k)) g;
      },
      omega (arith, x.most, h),
    )

pub returns : goal.returns
returns c = let a = c.args in
    let x = each (goal.at.returns c).In_default in
    let one-h = c.heads-1.given in
    let two-h = c.heads-2-1.given in
    let l = c.begin_all.new in
    let back = sym one-h ∙ sym two-h in
    serve-done (common_lent a.image.now (shared_as a.shared.now a.taken.now)) a.heads.now a.tables.now a.texts.now a.answers.now a.writes.now a.bytes.now
    _ _ l.heads l.tables l.texts l.answers _ _ _ _ _ (sym (ok-none c.reason-refused.ensures c.in_default.is)) one-h
    (c.most_rounds-most.ensures (omega (arith, x.least, one-h)) (omega (arith, x.most, one-h))) (
      refl,
      c.tables-2-1.given ∙ c.tables-1.given ∙ x.tables-are ∙ back,
      c.texts-2-1.given ∙ c.texts-1.given ∙ x.texts-are ∙ back,
      c.answers-2-1.given ∙ c.answers-1.given ∙ x.answers_are ∙ back,
    )
    c.begin_all.ensures.0 c.all_rounds.ensures
