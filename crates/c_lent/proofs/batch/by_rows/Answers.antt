-- `c_lent::batch::by_rows`: the rows fit, and what they leave is what rounds of steps leave.
use Prim.Native.Nat.{◌≤◌}
use native.Mathlib.Omega.{arith}
use lib.ListN.{length}
use Rattle.c_lent.specs.Numbers.{shared_lent}
use Rattle.c_lent.specs.Serving.{common_lent}
use Rattle.c_lent.proofs.WordsLeft.{all_known}
use Rattle.c_lent.proofs.ByRows.{rows_fit, words-few, rounds-made}
use Rattle.c_lent.proofs.batch.by_rows.Goals as goal

pub rows_for-requires : goal.rows_for-requires
rows_for-requires c = let a = c.args in
    let p = c.requires in
    let shared = shared_lent a.shared.now a.taken.now in
    let l = p.0.lengths in
    (l.1, l.3, p.1, all_known (common_lent a.image.now shared) a.heads.now a.tables.now a.texts.now a.answers.now l p.0.fits)

pub all_go_on-requires : goal.all_go_on-requires
all_go_on-requires c = let a = c.args in
    let p = c.requires in (
      p.0.lengths.3,
      words-few a.image.now (shared_lent a.shared.now a.taken.now) c.rows_for.new.rows a.heads.now a.tables.now a.texts.now
          a.answers.now a.m p.0.lengths p.2 p.0.fits p.3 c.rows_for.ensures,
    )

pub returns : goal.returns
returns c = let on = c.all_go_on in
    let a = c.args in
    let p = c.requires in
    let shared = shared_lent a.shared.now a.taken.now in
    let rows = c.rows_for.new.rows in
    let enough : length a.heads.now ≤ length c.rows_for.new.rows = omega (arith, p.1) in
    let fit = rows_fit a.image.now shared rows a.heads.now a.tables.now a.texts.now a.answers.now a.m p.0.lengths p.2 p.0.fits p.3
    c.rows_for.ensures enough in
    rounds-made a.image.now shared rows a.heads.now a.tables.now a.texts.now a.answers.now a.m p.0.lengths p.2 p.0.fits p.3
    c.rows_for.ensures c.fill_rounds.new.image on.new.heads on.new.answers c.heads-1.given (c.fill_rounds.ensures fit)
    (on.ensures a.tables.now a.texts.now)
