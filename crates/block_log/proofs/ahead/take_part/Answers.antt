use mathlib.Core.Path.{◌∙◌, sym}
use native.Mathlib.Omega.{arith}
use lib.ListN.{get_or-eq_default}
use Rattle.words.specs.Edition.{one}
use Rattle.words.proofs.Tests.{no_true}
use Rattle.block_log.proofs.Entry.{legal-mappable}
use Rattle.block_log.proofs.Replay.{next-legal, next-good, next-replay, end-replay}
use Rattle.block_log.proofs.ahead.take_part.Goals as goal
use Rattle.block_log.proofs.ahead.take_part.Goals.{then-e-eq0-via-then-e-eq0, then-e-eq0-via-else-e-eq0+then-not-is_legal}

-- an entry that is empty ends the part; one that breaks the rules is against what is known
pub returns-then-e-eq0 : goal.returns-then-e-eq0
returns-then-e-eq0 c = let a = c.args in
    let l = c.loop-e in
    let xs = c.words_from-e-items.result.now in
    λ h. elim c.then-e-eq0.branch [
      | then-e-eq0-via-then-e-eq0 w ↦ sym ((l.invariant h).1 ∙ end-replay one (record { table = l.table; size = l.end }) xs l.e-index w.if-e-eq0.true)
      | then-e-eq0-via-else-e-eq0+then-not-is_legal w ↦
          absurd (no_true (next-legal one a.blocks xs l.e-index w.if-e-eq0.false (l.invariant h).0) (sym w.is_legal.ensures ∙ w.if-not-is_legal.true))
    ]

pub take_in-end-requires : goal.take_in-end-requires
take_in-end-requires c = let a = c.args in
    legal-mappable a.blocks _ (omega arith) (sym c.is_legal.ensures ∙ c.if-not-is_legal.false)

pub loop-e-preserved : goal.loop-e-preserved
loop-e-preserved c = let a = c.args in
    let l = c.loop-e in
    let xs = c.words_from-e-items.result.now in
    let some = c.if-e-eq0.false in
    λ h. (
      next-good one a.blocks xs l.e-index some (l.invariant h).0,
      (l.invariant h).1 ∙ next-replay one a.blocks xs l.e-index some (record { table = l.table; size = l.end }) _ c.take_in-end.ensures.alone,
    )

pub returns : goal.returns
returns c = let l = c.loop-e in
    let xs = c.words_from-e-items.result.now in
    λ h. sym ((l.invariant h).1 ∙ end-replay one (record { table = l.table; size = l.end }) xs l.e-index (get_or-eq_default xs 0 (omega arith)))
