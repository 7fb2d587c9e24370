-- The rank of a live point of a row, how many of its steps are left at most: the words left to fill; for each other live point, which may commit first, and
-- for each entry ahead, a Moved and two edge blocks filled again; and what chaining a log block may cost it, where the tail's has not room for all live points.
use mathlib.Core.Path.{◌≡◌, refl, sym, ◌∙◌}
use mathlib.Core.Logic.{◌≢◌, ◌⊎◌, inl, inr}
use mathlib.Core.Bool.{Bool, true, false}
use Prim.Native.Nat.{ℕ, suc, ◌+◌, ◌*◌, ◌-◌, ◌≤◌, ◌<◌}
use native.Mathlib.Omega.{arith}
use lib.ListN.{length}
use lib.Dec.{ltb, eqb}
use borrow.Author.Tests.{lt-ltb, le-ltb, ltb-true, ltb-false, eq-eqb, ne_eqb}
use Rattle.words.specs.Edition.{Edition}
use Rattle.words.proofs.Sizes.{sized}
use Rattle.words.proofs.Choice.{choose, choose-true, choose-false}
use Rattle.block_log.specs.CatchUp.{Walk}
use Rattle.points.specs.declared.Phase as P
use Rattle.points.specs.declared.Phase.TheVariants.{Idle, Filling, RefillFirst, RefillLast, RefillBoth, Zeroing, Reading}
use Rattle.points.specs.declared.Point.{Point}
use Rattle.points.specs.Record.{is_zeroing, run_words}
use Rattle.recovery.proofs.Lone.Rank.{left_in}

-- what so many others and entries ahead may cost: Moved, and two edge blocks filled again, each
unfoldable pub waits : Edition → ℕ → ℕ
waits E u = (1 + 2 * E.block_words) * u

pub waits-more : (E : Edition) (a b : ℕ) → a < b → suc (waits E a + 2 * E.block_words) ≤ waits E b
unfolding waits
waits-more E a b = sized (λ W U. a < b → suc ((1 + 2 * W) * a + 2 * W) ≤ (1 + 2 * W) * b) (omega arith) E

pub waits-le : (E : Edition) (a b : ℕ) → a ≤ b → waits E a ≤ waits E b
unfolding waits
waits-le E a b = sized (λ W U. a ≤ b → (1 + 2 * W) * a ≤ (1 + 2 * W) * b) (omega arith) E

-- Extending, the words zeroed, the link or its loss, a Moved that only enters the log block
abbrev pub extension : Edition → ℕ
extension E = 1 + E.block_words + 1 + 1

-- The tail's log block has room for a point and so many others, or not: then somebody must extend. A point in another block may have to enter the tail's
abbrev pub tail_cost : Edition → ℕ → Walk → ℕ → ℕ
tail_cost E others a b = choose (ltb (a.slot + others) E.block_words) (choose (eqb b a.block) 0 1) (extension E)

-- what is left of zeroing, the link or its loss, and that Moved
abbrev pub chain_cost : Edition → ℕ → Walk → Point → ℕ
chain_cost E others a p =
    choose (is_zeroing p.head.write.phase) ((E.block_words - p.head.write.position) + 1 + 1) (tail_cost E others a p.head.place.block)

-- of a point with so many other live points, by the walk ahead of it
unfoldable pub turn_rank : Edition → ℕ → Walk → Point → ℕ
turn_rank E others a p = left_in E p.head.write.phase (run_words E p.head.write) p.head.write.position
    + waits E (others + length a.entries) + chain_cost E others a p + 1

-- a point that zeroes a log block stands in the tail's, or that has room for all
abbrev pub Settled : Edition → ℕ → Walk → Point → Type 0
Settled E others a p = is_zeroing p.head.write.phase ≡ true → (p.head.place.block ≡ a.block) ⊎ (a.slot + others < E.block_words)

-- ---- by phase

no_words : (E : Edition) (ph : P.Phase) (all at : ℕ) → is_zeroing ph ≡ true → left_in E ph all at ≡ 0
no_words E Idle all at e = refl
no_words E Filling all at e = let q : ◌≡◌ {A = ℕ} 0 1 = cc in absurd (omega arith)
no_words E RefillFirst all at e = let q : ◌≡◌ {A = ℕ} 0 1 = cc in absurd (omega arith)
no_words E RefillLast all at e = let q : ◌≡◌ {A = ℕ} 0 1 = cc in absurd (omega arith)
no_words E RefillBoth all at e = let q : ◌≡◌ {A = ℕ} 0 1 = cc in absurd (omega arith)
no_words E Zeroing all at e = refl
no_words E Reading all at e = refl

module _ (E : Edition) (o : ℕ) (a : Walk) (p : Point) where
  pub rank-zeroing : is_zeroing p.head.write.phase ≡ true
      → turn_rank E o a p ≡ waits E (o + length a.entries) + (E.block_words - p.head.write.position) + 3
  unfolding turn_rank
  rank-zeroing e = rw (no_words E p.head.write.phase (run_words E p.head.write) p.head.write.position e, e) (omega arith)

  pub rank-plain : is_zeroing p.head.write.phase ≡ false
      → turn_rank E o a p ≡ left_in E p.head.write.phase (run_words E p.head.write) p.head.write.position
      + waits E (o + length a.entries) + tail_cost E o a p.head.place.block + 1
  unfolding turn_rank
  rank-plain e = rw e

  pub rank-some : 1 ≤ turn_rank E o a p
  unfolding turn_rank
  rank-some = omega arith

-- ---- the tail

module _ (E : Edition) (o : ℕ) (a : Walk) (b : ℕ) where
  pub cost-tight : E.block_words ≤ a.slot + o → tail_cost E o a b ≡ extension E
  cost-tight h = choose-false (ltb (a.slot + o) E.block_words) _ _ (le-ltb (a.slot + o) E.block_words h)

  cost-room : a.slot + o < E.block_words → tail_cost E o a b ≡ choose (eqb b a.block) 0 1
  cost-room h = choose-true (ltb (a.slot + o) E.block_words) _ _ (lt-ltb (a.slot + o) E.block_words h)

  pub cost-there : a.slot + o < E.block_words → b ≡ a.block → tail_cost E o a b ≡ 0
  cost-there h e = cost-room h ∙ choose-true (eqb b a.block) 0 1 (eq-eqb b a.block e)

  pub cost-apart : a.slot + o < E.block_words → b ≢ a.block → tail_cost E o a b ≡ 1
  cost-apart h n = cost-room h ∙ choose-false (eqb b a.block) 0 1 (ne_eqb b a.block n)

  pub cost-low : a.slot + o < E.block_words → tail_cost E o a b ≤ 1
  cost-low h = rw (cost-room h) (low (eqb b a.block))
    where
      low : (t : Bool) → choose t 0 1 ≤ 1
      low true = omega arith
      low false = omega arith

  pub cost-most : tail_cost E o a b ≤ extension E
  cost-most = go (ltb (a.slot + o) E.block_words) refl
    where
      go : (t : Bool) → ltb (a.slot + o) E.block_words ≡ t → tail_cost E o a b ≤ extension E
      go true e = let l = cost-low (ltb-true (a.slot + o) E.block_words e) in omega arith
      go false e = let l = cost-tight (ltb-false (a.slot + o) E.block_words e) in omega arith

-- a point that has caught up stands in the tail's block
pub cost-caught : (E : Edition) (o : ℕ) (a c : Walk) (b : ℕ) → c.slot ≡ a.slot → tail_cost E o c c.block ≤ tail_cost E o a b
cost-caught E o a c b s = go (ltb (a.slot + o) E.block_words) refl
  where
    go : (t : Bool) → ltb (a.slot + o) E.block_words ≡ t → tail_cost E o c c.block ≤ tail_cost E o a b
    go true e = let l = ltb-true (a.slot + o) E.block_words e in
        let z = cost-there E o c c.block (omega arith) refl in omega arith
    go false e = let l = cost-tight E o a b (ltb-false (a.slot + o) E.block_words e) in let m = cost-most E o c c.block in omega arith

-- ---- another point's step, as a bystander sees it

-- it committed: one entry more, and there was room for it
pub record Grown (E : Edition) (a c : Walk) : Type 0 where
  pub room : a.slot < E.block_words
  pub block : c.block ≡ a.block
  pub slot : c.slot ≡ suc a.slot
  pub count : length c.entries ≡ suc (length a.entries)

-- it linked a log block: the tail is that block's slot 2
pub record Linked (E : Edition) (a c : Walk) : Type 0 where
  pub full : a.slot ≡ E.block_words
  pub slot : c.slot ≡ 2
  pub count : length c.entries ≡ length a.entries

module _ (E : Edition) (o : ℕ) (a c : Walk) (p : Point) where
  abbrev b : ℕ
  b = p.head.place.block

  -- the ranks are as their parts
  by_parts : (o' : ℕ) → waits E (o + length c.entries) ≤ waits E (o' + length a.entries)
      → (is_zeroing p.head.write.phase ≡ false → tail_cost E o c b ≤ tail_cost E o' a b)
      → turn_rank E o c p ≤ turn_rank E o' a p
  by_parts o' u t = go (is_zeroing p.head.write.phase) refl
    where
      go : (z : Bool) → is_zeroing p.head.write.phase ≡ z → turn_rank E o c p ≤ turn_rank E o' a p
      go true e = rw (rank-zeroing E o c p e, rank-zeroing E o' a p e) (omega arith)
      go false e = let l = t e in rw (rank-plain E o c p e, rank-plain E o' a p e) (omega arith)

  pub grown-rank : Grown E a c → turn_rank E o c p ≤ turn_rank E (suc o) a p
  grown-rank g = by_parts (suc o) (waits-le E (o + length c.entries) (suc o + length a.entries) (omega (arith, g.count))) (λ z. same)
    where
      same : tail_cost E o c b ≤ tail_cost E (suc o) a b
      same = let e : c.slot + o ≡ a.slot + suc o = omega (arith, g.slot) in rw (e, g.block) (omega arith)

  pub grown-settled : Grown E a c → Settled E (suc o) a p → Settled E o c p
  grown-settled g s z = go (s z)
    where
      go : (b ≡ a.block) ⊎ (a.slot + suc o < E.block_words) → (b ≡ c.block) ⊎ (c.slot + o < E.block_words)
      go (inl e) = inl (e ∙ sym g.block)
      go (inr l) = inr (omega (arith, g.slot))

  pub linked-rank : Linked E a c → o < 32 → turn_rank E o c p ≤ turn_rank E o a p
  linked-rank g few = by_parts o (waits-le E (o + length c.entries) (o + length a.entries) (omega (arith, g.count)))
      (λ z. let x = cost-low E o c b (omega (arith, g.slot, E.least)) in let y = cost-tight E o a b (omega (arith, g.full)) in omega arith)

  pub linked_settled : Linked E a c → o < 32 → Settled E o c p
  linked_settled g few z = inr (omega (arith, g.slot, E.least))

-- its write ended without a commit
module _ (E : Edition) (o : ℕ) (a : Walk) (p : Point) where
  pub fewer-rank : turn_rank E o a p ≤ turn_rank E (suc o) a p
  fewer-rank = by_parts E o a a p (suc o) (waits-le E (o + length a.entries) (suc o + length a.entries) (omega arith)) (λ z. cost)
    where
      cost : tail_cost E o a p.head.place.block ≤ tail_cost E (suc o) a p.head.place.block
      cost = go (ltb (a.slot + suc o) E.block_words) refl
        where
          go : (t : Bool) → ltb (a.slot + suc o) E.block_words ≡ t
              → tail_cost E o a p.head.place.block ≤ tail_cost E (suc o) a p.head.place.block
          go true e = let l = ltb-true (a.slot + suc o) E.block_words e in
              rw (cost-room E o a p.head.place.block (omega arith), cost-room E (suc o) a p.head.place.block (omega arith)) (omega arith)
          go false e = let l = cost-tight E (suc o) a p.head.place.block (ltb-false (a.slot + suc o) E.block_words e) in
              let m = cost-most E o a p.head.place.block in omega arith

  pub fewer-settled : Settled E (suc o) a p → Settled E o a p
  fewer-settled s z = go (s z)
    where
      go : (p.head.place.block ≡ a.block) ⊎ (a.slot + suc o < E.block_words) → (p.head.place.block ≡ a.block) ⊎ (a.slot + o < E.block_words)
      go (inl e) = inl e
      go (inr l) = inr (omega arith)
