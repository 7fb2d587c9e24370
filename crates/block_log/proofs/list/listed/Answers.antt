-- A refused opening answers no blocks; else the rows are what catching up makes from the log's start.
use mathlib.Core.Path.{◌∙◌, sym, ap}
use mathlib.Core.Logic.{◌≢◌}
use Rattle.words.specs.Edition.{one}
use Rattle.block_log.specs.Opening.{opened}
use Rattle.block_log.specs.declared.Opened.{Opened}
use Rattle.block_log.proofs.Listing.{rows-refused, rows-opened}
use Rattle.block_log.proofs.list.listed.Goals as goal

pub returns-then-blocks-eq0 : goal.returns-then-blocks-eq0
returns-then-blocks-eq0 c = let a = c.args in (
  c.open-opened.ensures.0,
  c.open-opened.ensures.1,
  rows-refused one a.image.now a.scratch.now (ap (λ (k : Opened). k.shared.blocks) (sym c.open-opened.ensures.0) ∙ c.if-blocks-eq0.true),
)

pub returns : goal.returns
returns c = let a = c.args in
    let s = c.start in
    let e = ap (λ (k : Opened). k.shared.blocks) (sym c.open-opened.ensures.0) in
    let some : (opened one a.image.now a.scratch.now).shared.blocks ≢ 0 = λ z. c.if-blocks-eq0.false (sym e ∙ z) in (
      c.open-opened.ensures.0,
      c.open-opened.ensures.1,
      rows-opened a.image.now a.scratch.now some s.result s.ensures _ c.catch_up.result (rw (sym e) at c.catch_up.ensures),
    )
