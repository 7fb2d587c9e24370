-- The place that is named for 6 breaks its rule: the first bad log block of the chain has a word 1 that is not 0, or an entry behind an empty slot, or a
-- next index though a slot is empty. One law for each of the three.
use mathlib.Core.Path.{◌≡◌, refl, sym, ap, ◌∙◌}
use mathlib.Core.Logic.{◌≢◌, ◌⊎◌, inl, inr}
use mathlib.Core.Bool.{Bool, true, false, not, ◌&&◌, or-false}
use mathlib.Core.List.{List, [], ◌∷◌}
use Prim.Native.Nat.{ℕ, ◌+◌, ◌-◌, ◌<◌}
use native.Mathlib.Omega.{arith}
use lib.Dec.{leb, ltb, eqb}
use lib.ListN.{length, get_or, take, drop, length-drop}
use lib.Seq.{drop-drop, get_or-drop}
use borrow.Author.Tests.{eqb-true, le-leb, leb-false, lt-ltb, ltb-true, not-true}
use Rattle.words.specs.Edition.{Edition}
use Rattle.words.specs.Logic.{is_zero, some_of, all_of, member, any, up_to_zero}
use Rattle.words.specs.Memory.{memory, block_count, block_at}
use Rattle.words.proofs.Logic.{all-every, and_left, and_right, or_left, or_right}
use Rattle.words.proofs.Memory.{block-length}
use Rattle.words.proofs.Tests.{not-no, not-zero, nonzero, no_true, or_split}
use Rattle.block_log.specs.Chain.{chain, slots, bad_index, endless, bad_log_block, bad_log, outside}
use Rattle.block_log.specs.Opening.{open_refusal}
use Rattle.block_log.proofs.Start.{chain-inside}
use Rattle.inspection.specs.Breaks.{breaks, breaks6}
use Rattle.inspection.specs.Faults.{fault_at, first_fault, block_fault, first_bad, zeros_ahead}
use Rattle.inspection.proofs.ChainRead.{chain-read}
use Rattle.inspection.proofs.Firsts.{Behind, behind-found, zero-there, bad-found}
use Rattle.inspection.proofs.Known.{known-6}
use Rattle.inspection.proofs.Late.{named-6, by_number, holds-it}

-- a log block of the chain is inside
member_below : (k x : ℕ) (xs : List ℕ) → some_of (outside k) xs ≡ false → member x xs ≡ true → x < k
member_below k x [] h e = absurd (no_true e refl)
member_below k x (y ∷ ys) h e = go (or_split (eqb x y) (member x ys) e) (λ r. member_below k x ys (or_right (leb k y) (some_of (outside k) ys) h) r)
  where
    go : (eqb x y ≡ true) ⊎ (member x ys ≡ true) → (member x ys ≡ true → x < k) → x < k
    go (inl r) ih = rw (eqb-true x y r) (leb-false k y (or_left (leb k y) (some_of (outside k) ys) h))
    go (inr r) ih = ih r

-- the rules of a block's 6 as facts of its place
module _ (E : Edition) (words scratch : List ℕ) (b : ℕ) where
  abbrev block : List ℕ
  block = block_at (memory E words) b

  abbrev n : ℕ
  n = length (up_to_zero (slots block))

  module _ (linked : member b (chain (memory E words)) ≡ true) where
    second : get_or block 1 0 ≢ 0 → breaks6 E words scratch (fault_at (memory E words) 6 1 b 1 0) ≡ true
    unfolding breaks6
    second h = all-every _ (
      holds-it E words scratch (fault_at (memory E words) 6 1 b 1 0) refl,
      (linked, (not-no _ (not-zero _ h), (refl, tt))),
    )

    next : get_or block 0 0 ≢ 0 → n < length (slots block) → breaks6 E words scratch (fault_at (memory E words) 6 3 b 0 0) ≡ true
    unfolding breaks6
    next h l = all-every _ (
      holds-it E words scratch (fault_at (memory E words) 6 3 b 0 0) refl,
      (linked, (not-no _ (not-zero _ h), (zero-there (slots block) l, tt))),
    )

    module _ (whole : length block ≡ E.block_words) where
      behind : (k : ℕ) → Behind (slots block) k → breaks6 E words scratch (fault_at (memory E words) 6 2 b (2 + k) 0) ≡ true
      unfolding breaks6
      behind k h =
          let e : 2 + k - 2 ≡ k = omega arith in
          let there : get_or block (2 + k) 0 ≢ 0 = rw (← get_or-drop 2 block k 0) h.some in
          let inside : 2 + k < E.block_words = omega (arith, h.inside, length-drop 2 block, whole) in
          let late : some_of is_zero (take (2 + k - 2) (slots block)) ≡ true = rw e h.late in
          all-every _ (
            holds-it E words scratch (fault_at (memory E words) 6 2 b (2 + k) 0) refl,
            (
              linked,
              (
                not-no (is_zero (get_or block (2 + k) 0)) (not-zero (get_or block (2 + k) 0) there),
                (all-every _ (le-leb 2 (2 + k) (omega arith), (lt-ltb (2 + k) E.block_words inside, (late, tt))), tt),
              ),
            ),
          )

  -- which of them is named
  at_second : is_zero (get_or block 1 0) ≡ false → block_fault (memory E words) b ≡ fault_at (memory E words) 6 1 b 1 0
  unfolding block_fault
  at_second h = rw (h, block_fault)

  at-behind : is_zero (get_or block 1 0) ≡ true → all_of is_zero (drop n (slots block)) ≡ false
      → block_fault (memory E words) b ≡ fault_at (memory E words) 6 2 b (2 + (n + zeros_ahead (drop n (slots block)))) 0
  unfolding block_fault
  at-behind z h =
      let e : 2 + (n + zeros_ahead (drop (2 + n) block)) ≡ 2 + n + zeros_ahead (drop (2 + n) block) = omega arith in
      let d : drop n (slots block) ≡ drop (2 + n) block = drop-drop n 2 block in
      rw (d, e, z, rw d at h, block_fault)

  at_next : is_zero (get_or block 1 0) ≡ true → all_of is_zero (drop n (slots block)) ≡ true
      → block_fault (memory E words) b ≡ fault_at (memory E words) 6 3 b 0 0
  unfolding block_fault
  at_next z h =
      let d : drop n (slots block) ≡ drop (2 + n) block = drop-drop n 2 block in
      rw (z, rw d at h, block_fault)

  last-test : is_zero (get_or block 1 0) ≡ true → all_of is_zero (drop n (slots block)) ≡ true → bad_log_block block ≡ true
      → not (is_zero (get_or block 0 0)) && ltb n (length (slots block)) ≡ true
  unfolding bad_log_block any
  last-test z h bad = sym (or-false _) ∙ (rw (z, h) at bad)

  pub block-breaks : member b (chain (memory E words)) ≡ true → length block ≡ E.block_words → bad_log_block block ≡ true
      → breaks6 E words scratch (block_fault (memory E words) b) ≡ true
  block-breaks linked whole bad = go (is_zero (get_or block 1 0)) (all_of is_zero (drop n (slots block))) refl refl
    where
      go :
          (s t : Bool) → is_zero (get_or block 1 0) ≡ s → all_of is_zero (drop n (slots block)) ≡ t
          → breaks6 E words scratch (block_fault (memory E words) b) ≡ true
      go false t z h = rw (at_second z) (second linked (nonzero (get_or block 1 0) z))
      go true false z h = rw (at-behind z h) (behind linked whole (n + zeros_ahead (drop n (slots block))) (behind-found (slots block) h))
      go true true z h =
          let l = last-test z h bad in
          rw (at_next z h)
          (next linked (nonzero (get_or block 0 0) (not-true _ (and_left (not (is_zero (get_or block 0 0))) (ltb n (length (slots block))) l)))
          (ltb-true n (length (slots block)) (and_right (not (is_zero (get_or block 0 0))) (ltb n (length (slots block))) l)))

  pub block-number : (block_fault (memory E words) b).number ≡ 6
  unfolding block_fault
  block-number = go (is_zero (get_or block 1 0)) (all_of is_zero (drop (2 + n) block)) refl refl
    where
      go : (s t : Bool) → is_zero (get_or block 1 0) ≡ s → all_of is_zero (drop (2 + n) block) ≡ t → (block_fault (memory E words) b).number ≡ 6
      go false t z h = rw (z, block_fault)
      go true false z h = rw (z, h, block_fault)
      go true true z h = rw (z, h, block_fault)

module _ (E : Edition) (words scratch : List ℕ) (e : open_refusal E words scratch ≡ 6) where
  known : (bad_index (block_count E words) (memory E words) ≡ false) × (endless (memory E words) ≡ false) × (bad_log (memory E words) ≡ true)
  known = let k = known-6 E words scratch e in (k.3, k.4, k.5)

  abbrev first-bad : ℕ
  first-bad = first_bad (memory E words) (chain (memory E words))

  found : (member first-bad (chain (memory E words)) ≡ true) × (bad_log_block (block_at (memory E words) first-bad) ≡ true)
  unfolding bad_log
  found = bad-found (memory E words) (chain (memory E words)) known.2

  pub breaks-6 : breaks E words scratch (first_fault E words scratch) ≡ true
  breaks-6 =
      let n : first_fault E words scratch ≡ block_fault (memory E words) first-bad =
      named-6 E words scratch e
      ∙ ap (λ (l : List ℕ). block_fault (memory E words) (first_bad (memory E words) l))
      (chain-read (block_count E words) (memory E words) known.0 known.1) in
      rw n (by_number E words scratch (block_fault (memory E words) first-bad) 5 (block-number E words scratch first-bad)
      (block-breaks E words scratch first-bad found.0
      (block-length E words first-bad (member_below (block_count E words) first-bad (chain (memory E words)) (chain-inside E words known.0) found.0))
      found.1))
