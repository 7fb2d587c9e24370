-- Each way out is a law of Outcome; what is known on the way is `past` and `held`.
use mathlib.Core.Path.{◌≡◌, ◌∙◌, refl, sym, ap, subst}
use mathlib.Core.Bool.{true, false}
use Prim.Native.Nat.{ℕ, ◌+◌, ◌≤◌, ◌*◌}
use native.Mathlib.Omega.{arith}
use lib.ListN.{length}
use Rattle.words.specs.Edition.{one}
use Rattle.words.specs.Memory.{Memory, memory, block_count}
use Rattle.block_log.specs.CatchUp.{ahead}
use Rattle.block_log.specs.Chain.{chain, log}
use Rattle.block_log.specs.Look.{lookahead_of}
use Rattle.block_log.specs.Opening.{bad_entry}
use Rattle.block_log.specs.declared.Lookahead.{Lookahead}
use Rattle.words.proofs.FreeCount.{free-small}
use Rattle.block_log.proofs.Opening.{Passed, passed-early, early-out}
use Rattle.block_log.proofs.Outcome.{Held, blocks-small, scratch-enough, at-start, walk-bad, count_is, taken_in, takable, file-small, markable}
use Rattle.block_log.proofs.Outcome.{out-7, out-8, out-9, out-opened, out-scratch}
use Rattle.block_log.proofs.open.open.Goals as goal
use Rattle.block_log.proofs.open.open.Goals.{After-catch_up-size, After-look-lookahead, In_default}

-- past 1 to 6
past : (c : In_default) → Passed one c.args.image.now c.args.scratch.now
past c = passed-early _ _ (sym c.early_reason.ensures ∙ c.in_default.is)

-- what the walk from the log's start saw
seen : (c : After-look-lookahead) → let words = c.args.image.now in
    c.look-lookahead.result
    ≡ lookahead_of one (block_count one words) 0 0 (ahead one (memory one words) (block_count one words) c.start-from.result)
seen c = rw c.whole_blocks-blocks.ensures at c.look-lookahead.ensures

-- what it says of 7
bad-is : (c : After-look-lookahead)
    → c.look-lookahead.result.broken
    ≡ bad_entry one (block_count one c.args.image.now) (log (memory one c.args.image.now))
unfolding lookahead_of
bad-is c =
    let s = c.start-from in
    let p = passed-early _ _ (sym c.early_reason.ensures ∙ c.in_default.is) in
    ap (λ (k : Lookahead). k.broken) (seen c) ∙ walk-bad p s.result (at-start p s.result s.ensures)

-- past 7, with the file in hand
held : (c : After-catch_up-size)
    → Held one c.args.image.now c.args.scratch.now c.catch_up-size.new.table
    c.catch_up-size.result
unfolding lookahead_of
held c =
    let p = passed-early _ _ (sym c.early_reason.ensures ∙ c.in_default.is) in
    let s = c.start-from in
    let from = at-start p s.result s.ensures in
    let legal = sym (let s = c.start-from in let p = passed-early _ _ (sym c.early_reason.ensures ∙ c.in_default.is) in ap (λ (k : Lookahead). k.broken) (rw c.whole_blocks-blocks.ensures at c.look-lookahead.ensures) ∙ walk-bad p s.result (at-start p s.result s.ensures)) ∙ c.if-lookahead.false in
    let caught = rw c.whole_blocks-blocks.ensures at c.catch_up-size.ensures in
    taken_in p legal s.result from _ _ (caught (blocks-small one p) (walk-bad p s.result from ∙ legal))

-- where the walk ended, and how many log blocks it entered, give the counts
abbrev Counted : Memory → Lookahead → Type 0
Counted m k =
    (2 ≤ k.place.slot + 62 * k.entered) × (k.place.slot ≤ 64) × (k.entered ≤ 63) × ((n : ℕ) → n + 2 ≡ k.place.slot + 62 * k.entered → n ≡ length (log m))
    × (k.entered + 1 ≡ length (chain m))

walked : (c : After-look-lookahead) → Counted (memory one c.args.image.now) c.look-lookahead.result
unfolding lookahead_of
walked c =
    let p = passed-early _ _ (sym c.early_reason.ensures ∙ c.in_default.is) in
    let s = c.start-from in
    let words = c.args.image.now in
    let w = ahead one (memory one words) (block_count one words) c.start-from.result in
    subst (Counted (memory one words)) (sym (seen c))
    (count_is p w (ap (ahead one (memory one words) (block_count one words)) (at-start p s.result s.ensures)))

pub returns-in-Err : goal.returns-in-Err
returns-in-Err c = let o = early-out c.args.image.now c.args.scratch.now c.in-Err.refusal (sym c.early_reason.ensures ∙ c.in-Err.is) in
    (c.refused.ensures ∙ sym o.0, sym o.1)

pub overflow_cast-blocks : goal.overflow_cast-blocks
overflow_cast-blocks c = omega (arith, blocks-small one (past (goal.at.overflow_cast-blocks c).In_default))

pub returns-then-lookahead : goal.returns-then-lookahead
returns-then-lookahead c = let o = out-7 one (past (goal.at.returns-then-lookahead c).In_default) (sym (bad-is (goal.at.returns-then-lookahead c).After-look-lookahead) ∙ c.if-lookahead.true) in
    (c.refused-then-lookahead.ensures ∙ sym o.0, sym o.1)

pub clear-requires : goal.clear-requires
clear-requires c = scratch-enough one (past (goal.at.clear-requires c).In_default)

pub take_all-requires : goal.take_all-requires
take_all-requires c = takable (held (goal.at.take_all-requires c).After-catch_up-size)

pub returns-in-Err-take_all : goal.returns-in-Err-take_all
returns-in-Err-take_all c = let met = c.take_all.ensures.met _ c.in-Err-take_all.is in
    let o = out-8 one (held (goal.at.returns-in-Err-take_all c).After-catch_up-size) true (sym met.1) refl in
    (rw met.0 at c.refused-in-Err-take_all.ensures ∙ sym o.0, c.clear.ensures ∙ sym o.1)

pub dirty_end-requires : goal.dirty_end-requires
dirty_end-requires c = file-small one (held (goal.at.dirty_end-requires c).After-catch_up-size)

pub returns-then-dirty_end : goal.returns-then-dirty_end
returns-then-dirty_end c = let taken = c.take_all.ensures.taken _ c.in-Ok.is in
    let o = out-9 one (held (goal.at.returns-then-dirty_end c).After-catch_up-size) false taken.0 refl c.dirty_end.result
    c.dirty_end.ensures c.if-dirty_end.true in
    (c.refused-then-dirty_end.ensures ∙ sym o.0, c.clear.ensures ∙ sym o.1)

pub mark_scratch-requires : goal.mark_scratch-requires
mark_scratch-requires c = markable (held (goal.at.mark_scratch-requires c).After-catch_up-size) _ c.clear.ensures

pub entries-n-requires : goal.entries-n-requires
entries-n-requires c = let k = walked (goal.at.entries-n-requires c).After-look-lookahead in (k.0, k.1, k.2)

pub overflow_cast-blocks-2 : goal.overflow_cast-blocks-2
overflow_cast-blocks-2 c = omega (arith, blocks-small one (past (goal.at.overflow_cast-blocks-2 c).In_default))

pub overflow_cast-free : goal.overflow_cast-free
overflow_cast-free c = omega (arith, blocks-small one (past (goal.at.overflow_cast-free c).In_default), c.free_count-free.ensures, free-small c.in-Ok.map c.whole_blocks-blocks.result)

pub overflow_add-lookahead : goal.overflow_add-lookahead
overflow_add-lookahead c = let k = walked (goal.at.overflow_add-lookahead c).After-look-lookahead in omega (arith, k.2)

pub shape_of-scratch : goal.shape_of-scratch
shape_of-scratch c = c.mark_scratch.auto.scratch ∙ c.clear.auto.scratch

pub returns : goal.returns
returns c = let h = held (goal.at.returns c).After-catch_up-size in
    let taken = c.take_all.ensures.taken _ c.in-Ok.is in
    let clean = c.if-dirty_end.false in
    let f = c.free_count-free in
    let blocks = c.whole_blocks-blocks.ensures in (
      rw (c.nobody_joined.ensures, blocks) at c.done.ensures
          ∙ sym (out-opened one h false taken.0 refl c.dirty_end.result c.dirty_end.ensures clean c.in-Ok.map
          c.entries-n.result f.result _ taken.1 ((walked (goal.at.returns c).After-look-lookahead).3 c.entries-n.result c.entries-n.ensures)
          (rw blocks at f.ensures) (walked (goal.at.returns c).After-look-lookahead).4),
      out-scratch one h false taken.0 refl c.dirty_end.result c.dirty_end.ensures clean c.clear.new.scratch
          c.mark_scratch.new.scratch c.clear.ensures c.mark_scratch.ensures,
    )
