-- The first byte in the file's last block that is not 0, from the end on.
use mathlib.Core.Path.{ap, ◌∙◌}
use mathlib.Core.List.{List}
use Prim.Native.Nat.{ℕ, ◌+◌, ◌-◌}
use Rattle.words.specs.Edition.{one}
use Rattle.words.specs.Memory.{memory}
use Rattle.inspection.specs.Faults.{first_byte}
use Rattle.inspection.proofs.Named.{end-named}
use Rattle.inspection.proofs.faults.end_fault.Goals as goal

pub returns : goal.returns
returns c = let m = memory one c.args.image.now in
    let q = c.in_block.result in
    let k = c.first_byte-k.ensures.0 ∙ ap (λ (part : List ℕ). first_byte part (q + 1) (512 - (q + 1))) c.block.ensures in
    c.fault_at.ensures
    ∙ end-named m c.args.table.now c.args.size _ _ q _ _ c.block-v.ensures c.from-b.ensures c.in_block.ensures k
    c.whole_words.ensures
