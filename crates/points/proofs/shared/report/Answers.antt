-- `points::shared::report`: a number that no report is for changes nothing. Assumes nothing.
use mathlib.Core.Path.{sym}
use lib.Seq.{set_out}
use Rattle.points.proofs.shared.report.Goals as goal

pub returns-else-at-reports : goal.returns-else-at-reports
returns-else-at-reports c = let a = c.args in sym (set_out a.reports.now a.number a.block c.if-at-reports.false)
