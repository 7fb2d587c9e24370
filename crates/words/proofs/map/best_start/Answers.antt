use mathlib.Core.Path.{◌≡◌, refl, sym, ap, ◌∙◌}
use mathlib.Core.Logic.{inl, inr}
use mathlib.Core.Bool.{true, false}
use Prim.Native.Nat.{◌+◌, ◌-◌, ◌*◌, ◌<◌, min}
use native.Mathlib.Omega.{arith}
use lib.Count.{count_trailing_zeros}
use lib.ListN.{get_or}
use Rattle.words.specs.declared.map.Stretch.{Stretch}
use Rattle.words.specs.BlockMap.{taken}
use Rattle.words.specs.Search.{stretches_from, shorter, found}
use Rattle.words.proofs.Zeros.{Lowest, lowest-is}
use Rattle.words.proofs.Looks.{onward, all-free, free-before, held-there, behind-free}
use Rattle.words.proofs.Stretches.{found_from, found_none, passes, turn, settled, free-to-end, shorter-same}
use Rattle.words.proofs.map.best_start.Goals as goal
use Rattle.words.proofs.map.best_start.Goals.{Then-taken-ne0}

-- what a look shows that meets a taken block: where that is, and that it lies behind the start, which is free
looked : (c : Then-taken-ne0) → Lowest (get_or c.args.map.now c.loop-k.k 0) c.loop-k.low (count_trailing_zeros 64 c.from_bit-taken.result)
looked c =
    lowest-is (get_or c.args.map.now c.loop-k.k 0) c.loop-k.low c.from_bit-taken.result c.from_bit-taken.ensures.0
    c.from_bit-taken.ensures.1 c.if-taken-ne0.true

held : (c : Then-taken-ne0) → taken c.args.map.now (64 * c.loop-k.k + count_trailing_zeros 64 c.from_bit-taken.result) ≡ true
held c =
    held-there c.args.map.now c.loop-k.k c.loop-k.low (count_trailing_zeros 64 c.from_bit-taken.result) (looked c)

past : (c : Then-taken-ne0) → c.next_start-start.result < 64 * c.loop-k.k + count_trailing_zeros 64 c.from_bit-taken.result
past c =
    let n = c.next_start-start in
    behind-free c.args.map.now n.result (64 * c.loop-k.k + count_trailing_zeros 64 c.from_bit-taken.result)
    (omega (arith, c.loop-k.invariant.3, (looked c).from)) (n.ensures.is_free (omega arith)) (held c)

pub starts-init : goal.starts-init
unfolding found
starts-init c = (omega arith, λ l. inl (inl refl), refl)

pub overflow_sub-length : goal.overflow_sub-length
overflow_sub-length c = omega (arith, past (goal.at.overflow_sub-length c).Then-taken-ne0)

pub starts-smaller : goal.starts-smaller
starts-smaller c = omega (arith, past (goal.at.starts-smaller c).Then-taken-ne0, c.next_start-start.ensures.from)

pub starts-preserved : goal.starts-preserved
starts-preserved c = let t = c.next_start-start in
    let o = c.starts in
    let a = c.args in
    let m = a.map.now in
    let i = c.loop-k.invariant in
    let d = 64 * c.loop-k.k + count_trailing_zeros 64 c.from_bit-taken.result in
    let e : c.shorter-best.result ≡ shorter a.n o.best (record { start = t.result; length = min d a.blocks - t.result }) =
    c.shorter-best.ensures ∙ shorter-same a.n t.result i.0 c.min.ensures in
    let free = onward (λ b. taken m b ≡ false) t.result (64 * c.loop-k.k + c.loop-k.low) d i.4
    (free-before m c.loop-k.k c.loop-k.low (count_trailing_zeros 64 c.from_bit-taken.result) (looked (goal.at.starts-preserved c).Then-taken-ne0)) in (
      omega (arith, past (goal.at.starts-preserved c).Then-taken-ne0),
      λ _. inr (held (goal.at.starts-preserved c).Then-taken-ne0),
      o.invariant.2
          ∙ ap (λ (x : Stretch). x.start)
          (passes m a.blocks a.n o.best o.s t.result t.ensures
          ∙ turn m a.blocks a.n o.best t.result d (t.ensures.begins (omega arith)) (omega arith)
          (omega (arith, o.invariant.0, t.ensures.from)) (past (goal.at.starts-preserved c).Then-taken-ne0)
          (λ b lo hi. free b lo (omega arith)) (λ _. held (goal.at.starts-preserved c).Then-taken-ne0)
          ∙ ap (λ (x : Stretch). found_from m a.blocks a.n x d) (sym e)),
    )

pub loop-k-preserved : goal.loop-k-preserved
loop-k-preserved c = let m = c.args.map.now in
    let i = c.loop-k.invariant in
    let rest = all-free m c.loop-k.k c.loop-k.low c.from_bit-taken.result c.from_bit-taken.ensures.0 c.if-taken-ne0.false in
    let free = onward (λ b. taken m b ≡ false) c.next_start-start.result (64 * c.loop-k.k + c.loop-k.low) (64 * c.loop-k.k + 64) i.4 rest in
    (i.0, i.1, omega arith, omega arith, λ b lo hi. free b lo (omega arith))

pub returns-then-blocks-s : goal.returns-then-blocks-s
returns-then-blocks-s c = let a = c.args in
    sym (c.starts.invariant.2 ∙ ap (λ (x : Stretch). x.start) (found_none a.map.now a.blocks a.n c.starts.best c.starts.s (omega arith)))

pub returns-then-best-n : goal.returns-then-best-n
returns-then-best-n c = let a = c.args in
    let rest = stretches_from a.map.now a.blocks c.starts.s (a.blocks - c.starts.s) in
    sym (c.starts.invariant.2 ∙ ap (λ (x : Stretch). x.start) (settled a.n c.starts.best rest (omega arith)))

pub returns-then-blocks-start : goal.returns-then-blocks-start
returns-then-blocks-start c = let t = c.next_start-start in
    let o = c.starts in
    let a = c.args in
    sym (o.invariant.2 ∙ ap (λ (x : Stretch). x.start)
    (passes a.map.now a.blocks a.n o.best o.s t.result t.ensures
    ∙ found_none a.map.now a.blocks a.n o.best t.result (omega arith)))

pub returns-after-loop-k : goal.returns-after-loop-k
returns-after-loop-k c = let t = c.next_start-start in
    let o = c.starts in
    let a = c.args in
    let m = a.map.now in
    let words = c.min-words in
    let free = free-to-end m a.blocks t.result c.loop-k.k c.loop-k.low words.result c.loop-k.invariant.4 words.ensures (omega arith) in
    let e : c.shorter.result ≡ shorter a.n o.best (record { start = t.result; length = min a.blocks a.blocks - t.result }) =
    c.shorter.ensures ∙ shorter-same a.n t.result c.loop-k.invariant.0 (omega arith) in
    sym (o.invariant.2 ∙ ap (λ (x : Stretch). x.start)
    (passes m a.blocks a.n o.best o.s t.result t.ensures
    ∙ turn m a.blocks a.n o.best t.result a.blocks (t.ensures.begins (omega arith)) (omega arith)
    (omega (arith, o.invariant.0, t.ensures.from)) (omega arith) (λ b lo hi. free b lo (omega arith)) (λ h. absurd (omega arith))
    ∙ ap (λ (x : Stretch). found_from m a.blocks a.n x a.blocks) (sym e)
    ∙ found_none m a.blocks a.n c.shorter.result a.blocks (omega arith)))
