use mathlib.Core.Path.{◌≡◌, refl, ap, ◌∙◌, subst}
use mathlib.Core.Logic.{inl, inr}
use mathlib.Core.Bool.{false}
use Prim.Native.Nat.{ℕ, ◌+◌, ◌-◌, ◌*◌, ◌^◌, ◌<◌, min}
use native.Mathlib.Omega.{arith}
use lib.Count.{count_trailing_zeros}
use lib.ListN.{get_or}
use Rattle.words.specs.BlockMap.{taken}
use Rattle.words.specs.Look.{from_bit, blocked_in, Blocked, Passes}
use Rattle.words.proofs.Zeros.{lowest-is}
use Rattle.words.proofs.Looks.{onward, blocked-before, begins-there, free-there, blocked-all, begins-behind, free-behind, unheld}
use Rattle.words.proofs.map.next_start.Goals as goal
use Rattle.words.proofs.map.next_start.Goals.{After-from_bit-free}

-- what was looked at: the clear bits of the word, from `low` on
clear-is : (c : After-from_bit-free) → let a = c.args in let l = c.loop-k in
    c.from_bit-free.result ≡ from_bit (2 ^ 64 - 1 - blocked_in (get_or a.map.now l.k 0) (min (a.n - 1) 2)) l.low
clear-is c = let l = c.loop-k in c.from_bit-free.ensures.0 ∙ ap (λ (x : ℕ). from_bit (2 ^ 64 - 1 - x) l.low) c.blocked.ensures

fits : (c : After-from_bit-free) → get_or c.args.map.now c.loop-k.k 0 < 2 ^ 64
fits c = (c.type_inv.map c.loop-k.k).fits

pub returns-then-free-ne0 : goal.returns-then-free-ne0
returns-then-free-ne0 c = let a = c.args in
    let l = c.loop-k in
    let m = a.map.now in
    let w = 2 ^ 64 - 1 - blocked_in (get_or m l.k 0) (min (a.n - 1) 2) in
    let h = lowest-is w l.low c.from_bit-free.result (clear-is (goal.at.returns-then-free-ne0 c).After-from_bit-free) c.from_bit-free.ensures.1 c.if-free-ne0.true in
    let j = count_trailing_zeros 64 c.from_bit-free.result in
    record {
      from = omega (arith, l.invariant.2, h.from);
      blocked =
          onward (Blocked m a.n) a.s (64 * l.k + l.low) (64 * l.k + j) l.invariant.3 (blocked-before m l.k l.low a.n (fits (goal.at.returns-then-free-ne0 c).After-from_bit-free) j h);
      begins = λ _. begins-there m l.k l.low a.n (fits (goal.at.returns-then-free-ne0 c).After-from_bit-free) j h l.invariant.4;
      is_free = λ _. free-there m l.k l.low a.n (fits (goal.at.returns-then-free-ne0 c).After-from_bit-free) j h;
    }

pub loop-k-preserved : goal.loop-k-preserved
loop-k-preserved c = let a = c.args in
    let l = c.loop-k in
    let m = a.map.now in
    let more = blocked-all m l.k l.low a.n (fits (goal.at.loop-k-preserved c).After-from_bit-free) c.from_bit-free.result (clear-is (goal.at.loop-k-preserved c).After-from_bit-free) c.if-free-ne0.false l.invariant.0 in (
      omega arith,
      omega arith,
      omega arith,
      λ x lo hi. onward (Blocked m a.n) a.s (64 * l.k + l.low) (64 * l.k + 64) l.invariant.3 more x lo (omega arith),
      inl (begins-behind m l.k l.low a.n (fits (goal.at.loop-k-preserved c).After-from_bit-free) c.from_bit-free.result (clear-is (goal.at.loop-k-preserved c).After-from_bit-free) c.if-free-ne0.false l.invariant.0),
      inr (omega arith, refl),
    )

-- behind the last word: where it ended, or the start as it came
pub returns : goal.returns
returns c = let a = c.args in
    let l = c.loop-k in
    let at : 64 * l.k + l.low ≡ c.max.result = (elim l.invariant.5 [ inl e ↦ omega arith | inr h ↦ omega arith ]) in
    let free : 64 * l.k + l.low < a.blocks → taken a.map.now (64 * l.k + l.low) ≡ false =
    λ h. free-behind a.map.now a.blocks a.words l.k (64 * l.k + l.low) c.requires.0 (omega arith) (omega arith) h in
    subst (λ t. Passes a.map.now a.blocks a.n a.s t) at (record {
      from = l.invariant.2;
      blocked = l.invariant.3;
      begins = λ h. unheld a.map.now (64 * l.k + l.low) (free h) l.invariant.4;
      is_free = free;
    })
