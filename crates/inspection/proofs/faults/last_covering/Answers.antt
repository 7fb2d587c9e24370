use mathlib.Core.Path.{◌≡◌, sym, ap, ◌∙◌}
use mathlib.Core.Bool.{false}
use mathlib.Core.List.{List}
use Prim.Native.Nat.{ℕ, suc, ◌-◌, ◌<◌}
use native.Mathlib.Omega.{arith}
use lib.ListN.{length, drop, drop_of_length-le}
use Rattle.words.specs.Logic.{some_of}
use Rattle.block_log.specs.Entry.{covers}
use Rattle.inspection.proofs.Searches.{last-here, last_none, covers-back}
use Rattle.inspection.proofs.faults.last_covering.Goals as goal

-- one back from j, what stands behind begins at j
none-behind : (v : ℕ) (xs : List ℕ) (j : ℕ) → 0 < j → some_of (covers v) (drop j xs) ≡ false → some_of (covers v) (drop (suc (j - 1)) xs) ≡ false
none-behind v xs j h e = let z : suc (j - 1) ≡ j = omega arith in rw z e

pub loop-j-init : goal.loop-j-init
loop-j-init c = let xs = c.args.entries.now in ap (some_of (covers c.args.v)) (drop_of_length-le xs {i = length xs} (omega arith))

pub returns-then-covers : goal.returns-then-covers
returns-then-covers c = let l = c.loop-j in
    sym (last-here c.args.v c.args.entries.now (l.j - 1) (omega (arith, l.auto.j)) (sym c.covers.ensures ∙ c.if-covers.true)
    (none-behind c.args.v c.args.entries.now l.j c.loop-j-test.true l.invariant))

pub loop-j-preserved : goal.loop-j-preserved
loop-j-preserved c = let l = c.loop-j in
    covers-back c.args.v c.args.entries.now (l.j - 1) (omega (arith, l.auto.j)) (sym c.covers.ensures ∙ c.if-covers.false)
    (none-behind c.args.v c.args.entries.now l.j c.loop-j-test.true l.invariant)

pub returns : goal.returns
returns c = let l = c.loop-j in
    let z : l.j ≡ 0 = omega arith in
    sym (last_none c.args.v c.args.entries.now (rw z at l.invariant))
