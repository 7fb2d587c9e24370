-- `block_log::ahead::take_entry`: an entry that is not taken in breaks the rules and may not be mapped, and the contract says nothing then.
use native.Mathlib.Omega.{arith}
use Rattle.block_log.proofs.Entry.{legal-mappable}
use Rattle.block_log.proofs.ahead.take_entry.Goals as goal
use Rattle.block_log.proofs.ahead.take_entry.Goals.{then-n-eq0-via-then-n-eq0, then-n-eq0-via-else-n-eq0+then-n-gt256}
use Rattle.block_log.proofs.ahead.take_entry.Goals.{then-first_virtual-n-gt256-via-then-first_virtual-n-gt256}
use Rattle.block_log.proofs.ahead.take_entry.Goals.{then-first_virtual-n-gt256-via-else-first_virtual-n-gt256+then-first_block-n-gt1024}

pub returns-then-n-eq0-clause-legal : goal.returns-then-n-eq0-clause-legal
returns-then-n-eq0-clause-legal c blocks few h = let m = legal-mappable blocks c.args.e few h in
    elim c.then-n-eq0.branch [
      | then-n-eq0-via-then-n-eq0 w ↦ absurd (omega (arith, w.if-n-eq0.true, c.count-n.ensures, m.0))
      | then-n-eq0-via-else-n-eq0+then-n-gt256 w ↦ absurd (omega (arith, w.if-n-gt256.true, c.count-n.ensures, m.1))
    ]

pub returns-then-first_virtual-n-gt256-clause-legal : goal.returns-then-first_virtual-n-gt256-clause-legal
returns-then-first_virtual-n-gt256-clause-legal c blocks few h = let m = legal-mappable blocks c.args.e few h in
    elim c.then-first_virtual-n-gt256.branch [
      | then-first_virtual-n-gt256-via-then-first_virtual-n-gt256 w ↦
          absurd (omega (arith, w.if-first_virtual-n-gt256.true, c.count-n.ensures, c.first_virtual.ensures.0, m.1))
      | then-first_virtual-n-gt256-via-else-first_virtual-n-gt256+then-first_block-n-gt1024 w ↦
          absurd (omega (arith, w.if-first_block-n-gt1024.true, c.count-n.ensures, w.first_block.ensures.0, m.2))
    ]

pub returns-then-used-gt512-clause-legal : goal.returns-then-used-gt512-clause-legal
returns-then-used-gt512-clause-legal c blocks few h = let m = legal-mappable blocks c.args.e few h in
    absurd (omega (arith, c.if-used-gt512.true, c.used.ensures, m.3))

pub returns-clause-legal : goal.returns-clause-legal
returns-clause-legal c blocks few h = c.take_in.ensures.alone
