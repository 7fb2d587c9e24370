-- The last live block is the one mapped where the last byte lies.
use mathlib.Core.Path.{sym, ap, ◌∙◌}
use mathlib.Core.List.{List}
use mathlib.Core.Bool.{not}
use Prim.Native.Nat.{ℕ, ◌+◌, ◌-◌}
use Rattle.words.specs.Edition.{one}
use Rattle.words.specs.Logic.{some_of, is_zero, up_from}
use Rattle.words.specs.Memory.{memory, block_at, byte_in}
use Rattle.block_log.proofs.Replay.{clean-empty, dirty-last}
use Rattle.block_log.proofs.open.dirty_end.Goals as goal

pub returns-then-size-eq0 : goal.returns-then-size-eq0
returns-then-size-eq0 c = let a = c.args in sym (clean-empty one (memory one a.image.now) a.table.now a.size c.if-size-eq0.true)

pub returns : goal.returns
returns c = let a = c.args in
    let q = c.in_block in
    let v = c.block in
    c.dirty_from.ensures
    ∙ ap (λ (p : List ℕ). some_of (λ k. not (is_zero (byte_in p k))) (up_from (q.result + 1) (512 - (q.result + 1))))
    (c.block-2.ensures ∙ ap (block_at (memory one a.image.now)) c.from-b.ensures)
    ∙ sym (dirty-last one (memory one a.image.now) a.table.now a.size v.result q.result c.if-size-eq0.false v.ensures q.ensures)
