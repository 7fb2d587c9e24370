-- The word there, and the first rule that it breaks.
use mathlib.Core.Path.{ap, ◌∙◌}
use Prim.Native.Nat.{ℕ}
use Rattle.words.specs.Edition.{one}
use Rattle.words.specs.Memory.{memory}
use Rattle.inspection.specs.Told.{rule_place}
use Rattle.inspection.specs.Faults.{fault_at}
use Rattle.inspection.proofs.Named.{entry_named, word_of}
use Rattle.inspection.proofs.faults.entry_fault.Goals as goal

pub returns : goal.returns
returns c = let m = memory one c.args.image.now in
    λ blocks. c.fault_at.ensures
    ∙ ap (λ (n : ℕ). fault_at m n (rule_place c.first_broken.result) c.block_of-b.result c.slot_of-i.result 0) c.first_broken.ensures.number
    ∙ entry_named m c.args.chain.now c.args.j _ _ _ _ blocks c.block_of-b.ensures c.slot_of-i.ensures
    (word_of m _ _ _ _ c.block.ensures c.word-e.ensures) (c.first_broken.ensures.place blocks)
