use Prim.Native.Nat.{◌<◌}
use native.Mathlib.Omega.{arith}
use lib.ListN.{length}
use Rattle.c_lent.specs.Numbers.{shared_lent}
use Rattle.c_lent.specs.Batch.{FillsAlone}
use Rattle.c_lent.proofs.Lone.{alone-known, alone-block, alone-rounds}
use Rattle.c_lent.proofs.batch.plain_batch.Goals as goal
use Rattle.c_lent.proofs.batch.plain_batch.Goals.{Then-fills_alone}

alone : (c : Then-fills_alone) → FillsAlone c.args.heads.now c.args.answers.now
alone c = c.fills_alone.ensures c.if-fills_alone.true

some-heads : (c : Then-fills_alone) → 0 < length c.args.heads.now
some-heads c = let n = (alone c).0 in omega arith

pub bounds-heads-0 : goal.bounds-heads-0
bounds-heads-0 c = some-heads (goal.at.bounds-heads-0 c).Then-fills_alone

pub bounds-tables-0 : goal.bounds-tables-0
bounds-tables-0 c = omega (arith, c.requires.0.lengths.1, some-heads (goal.at.bounds-tables-0 c).Then-fills_alone)

pub bounds-texts-0 : goal.bounds-texts-0
bounds-texts-0 c = omega (arith, c.requires.0.lengths.2, some-heads (goal.at.bounds-texts-0 c).Then-fills_alone)

pub bounds-answers-0 : goal.bounds-answers-0
bounds-answers-0 c = omega (arith, c.requires.0.lengths.3, some-heads (goal.at.bounds-answers-0 c).Then-fills_alone)

pub fill_alone-requires : goal.fill_alone-requires
fill_alone-requires c = let a = c.args in
    let p = c.requires in
    let shared = shared_lent a.shared.now a.taken.now in (
      alone-known a.image.now shared a.heads.now a.tables.now a.texts.now a.answers.now p.0.lengths p.0.fits (alone (goal.at.fill_alone-requires c).Then-fills_alone) a.m p.3,
      alone-block a.image.now shared a.heads.now a.tables.now a.texts.now a.answers.now p.0.lengths p.0.fits (alone (goal.at.fill_alone-requires c).Then-fills_alone) a.m p.3,
    )

pub by_rows-requires : goal.by_rows-requires
by_rows-requires c = c.requires

pub returns-then-fills_alone : goal.returns-then-fills_alone
returns-then-fills_alone c = let a = c.args in
    let p = c.requires in
    let e = c.fill_alone.ensures in
    alone-rounds a.image.now (shared_lent a.shared.now a.taken.now) a.heads.now a.tables.now a.texts.now a.answers.now p.0.lengths p.0.fits (alone (goal.at.returns-then-fills_alone c).Then-fills_alone) a.m p.3
    p.2 _ _ _ e.0 e.1 e.2
