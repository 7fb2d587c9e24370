-- The link at which reading the chain stopped, behind the log blocks read: its place, what it holds, and, where 4 or 5 holds, the rule of it that it breaks.
use mathlib.Core.Path.{◌≡◌, refl, sym, ◌∙◌, ap}
use mathlib.Core.Logic.{◌≢◌, ◌⊎◌, inl, inr}
use mathlib.Core.List.{List, [], ◌∷◌}
use mathlib.Core.Bool.{Bool, true, false, ◌&&◌, not}
use Prim.Native.Nat.{ℕ, zero, suc, ◌-◌, ◌<◌}
use native.Mathlib.Omega.{arith}
use lib.Dec.{eqb}
use lib.ListN.{length, get_or}
use borrow.Author.Tests.{eq-eqb}
use Rattle.words.specs.Edition.{chain_max}
use Rattle.words.specs.Logic.{is_zero, some_of, member}
use Rattle.words.specs.Memory.{Memory}
use Rattle.words.proofs.Logic.{and_both, any_none}
use Rattle.words.proofs.Tests.{member-at, nonzero, no_true, or-2, zero_is}
use Rattle.block_log.specs.Chain.{first_index, next_index, chain, outside, bad_index, endless}
use Rattle.block_log.proofs.Chain.{index-some}
use Rattle.inspection.specs.Breaks.{rule_at, is_link}
use Rattle.inspection.specs.Faults.{rule_of, last_of, link_word, link_value}
use Rattle.inspection.proofs.ChainRead.{Linked, Read, Halt, over, beyond, back, full, why, read-member}
use Rattle.inspection.proofs.ChainRead.{over-chain, full-chain, over-ends, beyond-outside, back_inside, round-nonzero}

-- where blocks are read, it stands in the last of them, in word 0
pub last-member : (bs : List ℕ) → 0 < length bs → member (last_of bs) bs ≡ true
last-member bs h = member-at bs (length bs - 1) (omega arith)

pub link-word : (bs : List ℕ) → 0 < length bs → link_word bs ≡ 0
link-word [] h = absurd (omega arith)
link-word (b ∷ bs) h = refl

module _ (m : Memory) where
  last-next : (b : ℕ) (bs : List ℕ) (start stop : ℕ) → Linked m start (b ∷ bs) stop → next_index m (get_or (b ∷ bs) (length bs) 0) ≡ stop
  last-next b [] start stop l = l.2
  last-next b (c ∷ bs) start stop l = last-next c bs (next_index m b) stop l.2

  -- it is the index behind the blocks read
  pub link-value : (bs : List ℕ) (stop : ℕ) → Linked m (first_index m) bs stop → link_value m bs ≡ stop
  link-value [] stop l = l
  link-value (b ∷ bs) stop l = let e : suc (length bs) - 1 ≡ length bs = omega arith in rw e (last-next b bs (first_index m) stop l)

  -- its place is one of a link
  pub link-is : (bs : List ℕ) → ((b : ℕ) → member b bs ≡ true → member b (chain m) ≡ true) → is_link m (last_of bs) (link_word bs) ≡ true
  link-is [] front = refl
  link-is (b ∷ bs) front =
      or-2 (eqb (last_of (b ∷ bs)) 0 && eqb 0 1) (member (last_of (b ∷ bs)) (chain m) && eqb 0 0)
      (and_both (member (last_of (b ∷ bs)) (chain m)) (eqb 0 0) (front (last_of (b ∷ bs)) (last-member (b ∷ bs) (omega arith))) refl)

  -- where the superblock has no first log block, none is read
  none_read : (bs : List ℕ) (stop : ℕ) → Linked m (first_index m) bs stop → first_index m ≡ 0 → bs ≡ []
  none_read [] stop l e = refl
  none_read (b ∷ bs) stop l e = absurd (l.1 (sym l.0 ∙ e))

-- the rule of 4 by the index
pub rule-4 :
    (blocks v block : ℕ) → ((v ≡ 0) × (block ≡ 0)) ⊎ ((v ≢ 0) × (outside blocks v ≡ true))
    → rule_at ((eqb block 0 && is_zero v) ∷ outside blocks v ∷ []) (rule_of (not (is_zero v))) ≡ true
rule-4 blocks zero block (inl h) = and_both (eqb block 0) true (eq-eqb block 0 h.1) refl
rule-4 blocks zero block (inr h) = absurd (h.0 refl)
rule-4 blocks (suc v) block (inl h) = absurd (omega (arith, h.0))
rule-4 blocks (suc v) block (inr h) = h.1

module _ (blocks : ℕ) (m : Memory) (bs : List ℕ) (r : Read m blocks chain_max (first_index m) bs) where
  -- 4: no first log block, or reading stopped at an index outside
  pub bad-link : bad_index blocks m ≡ true → ((r.stop ≡ 0) × (last_of bs ≡ 0)) ⊎ ((r.stop ≢ 0) × (outside blocks r.stop ≡ true))
  bad-link bad = go (why blocks m chain_max (first_index m) bs r)
    where
      empty : some_of (outside blocks) (chain m) ≡ false → bs ≡ []
      empty n = none_read m bs r.stop r.linked (first (is_zero (first_index m)) refl)
        where
          first : (t : Bool) → is_zero (first_index m) ≡ t → first_index m ≡ 0
          first true x = zero_is (first_index m) x
          first false x = absurd (no_true (sym (index-some blocks m (nonzero (first_index m) x)) ∙ bad) n)

      inside : chain m ≡ bs → some_of (outside blocks) (chain m) ≡ false
      inside e = rw e r.inside

      go : Halt blocks chain_max bs r.stop → ((r.stop ≡ 0) × (last_of bs ≡ 0)) ⊎ ((r.stop ≢ 0) × (outside blocks r.stop ≡ true))
      go (over e) = inl (e, rw (empty (inside (over-chain blocks m bs r e))))
      go (beyond ne h o) = inr (ne, o)
      go (back h) =
          let e = empty (back_inside blocks m bs r h) in
          let f : member r.stop [] ≡ true = sym (ap (member r.stop) e) ∙ h in
          absurd (no_true f refl)
      go (full ne n e) = let f = ap length (empty (inside (full-chain blocks m bs r e))) in absurd (omega arith)

  -- 5: reading stopped at one of the blocks read, or behind the 64th
  pub endless-link :
      bad_index blocks m ≡ false → endless m ≡ true
      → (r.stop ≢ 0) × (0 < length bs) × ((member r.stop bs ≡ true) ⊎ ((member r.stop bs ≡ false) × (length bs ≡ chain_max)))
  unfolding bad_index
  endless-link inside on = go (why blocks m chain_max (first_index m) bs r)
    where
      some : member r.stop bs ≡ true → 0 < length bs
      some h = nonempty bs h
        where
          nonempty : (l : List ℕ) → member r.stop l ≡ true → 0 < length l
          nonempty [] h = absurd (no_true h refl)
          nonempty (b ∷ l) h = omega arith

      go :
          Halt blocks chain_max bs r.stop
          → (r.stop ≢ 0) × (0 < length bs) × ((member r.stop bs ≡ true) ⊎ ((member r.stop bs ≡ false) × (length bs ≡ chain_max)))
      go (over e) = absurd (no_true on (over-ends blocks m bs r e))
      go (beyond ne h o) =
          absurd (no_true (beyond-outside blocks m bs r ne h o) (any_none (is_zero (first_index m) ∷ some_of (outside blocks) (chain m) ∷ []) inside).1.0)
      go (back h) = (round-nonzero m bs (first_index m) r.stop r.linked h, some h, inl h)
      go (full ne n e) = (ne, omega arith, inr (n, e))

  pub rule-5 :
      (member r.stop bs ≡ true) ⊎ ((member r.stop bs ≡ false) × (length bs ≡ chain_max))
      → rule_at (member r.stop (chain m) ∷ eqb (get_or (chain m) (chain_max - 1) 0) (last_of bs) ∷ []) (rule_of (not (member r.stop bs))) ≡ true
  rule-5 (inl h) = rw h (read-member blocks m bs r r.stop h)
  rule-5 (inr h) =
      let e : get_or (chain m) (chain_max - 1) 0 ≡ last_of bs =
      ap (λ (l : List ℕ). get_or l (chain_max - 1) 0) (full-chain blocks m bs r h.1) ∙ ap (λ (n : ℕ). get_or bs (n - 1) 0) (sym h.1) in
      rw h.0 (eq-eqb (get_or (chain m) (chain_max - 1) 0) (last_of bs) e)
