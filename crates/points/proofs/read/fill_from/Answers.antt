-- `points::read::fill_from` meets its contract: the bytes that are left, and their count. Assumes nothing.
use Prim.Native.Nat.{ℕ}
use mathlib.Core.Path.{◌∙◌, ap}
use lib.Seq.{sets}
use Rattle.words.specs.Edition.{one}
use Rattle.words.specs.Logic.{list_from}
use Rattle.words.specs.Memory.{memory}
use Rattle.block_log.specs.Refusals.{Done}
use Rattle.block_log.specs.Replay.{file_byte}
use Rattle.points.specs.declared.Count.{Count}
use Rattle.points.specs.Lent.{unsized}
use Rattle.points.proofs.read.fill_from.Goals as goal

abbrev answer : ℕ → Count
answer n = record { reply = Done; count = n }

pub returns : goal.returns
returns c = let a = c.args in
    let bytes = file_byte one (memory one a.image.now) (unsized a.table.now) in
    record {
      count = c.counted.ensures ∙ ap answer c.left-n.ensures;
      bytes = c.fill.ensures ∙ ap (λ (k : ℕ). sets a.buffer.now 0 (list_from a.offset k bytes)) c.left-n.ensures;
    }
