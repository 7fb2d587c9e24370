-- `points::commit::entry_for`: used bytes and point number fit their fields, so the entry is the definition's.
use mathlib.Core.Path.{◌∙◌}
use Rattle.points.proofs.Commits.{entry_kept}
use Rattle.words.specs.Edition.{one}
use Rattle.points.proofs.commit.entry_for.Goals as goal

pub returns : goal.returns
returns c = let args = c.args in
    let p = c.requires in
    let first = c.run_first-v in
    let count = c.span-n in
    c.entry.ensures ∙ entry_kept one args.head first.result count.result p.0.0 p.2 first.ensures count.ensures
