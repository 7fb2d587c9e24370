-- The first fault has opening's number, and for 1 to 5 the place that it names breaks its rule. The size and the scratch by their numbers; in the
-- superblock the mark, or the first word that is not 0; of the chain the link at which reading stopped, by why it did.
use mathlib.Core.Path.{◌≡◌, refl, sym, ◌∙◌, ap, subst}
use mathlib.Core.Logic.{◌≢◌}
use mathlib.Core.List.{List, [], ◌∷◌, map}
use mathlib.Core.Bool.{Bool, true, false, ◌&&◌, not}
use Prim.Native.Nat.{ℕ, zero, suc, ◌+◌, ◌/◌, ◌%◌, ◌≤◌, ◌<◌}
use native.Mathlib.Omega.{arith}
use lib.Dec.{leb, ltb, eqb}
use lib.ListN.{length, get_or, drop, length-drop, get_or-map}
use lib.Seq.{get_or-drop}
use borrow.Author.Tests.{eqb-true, eq-eqb, ltb-false, lt-ltb, le-leb, not-true}
use Rattle.words.specs.Edition.{Edition, blocks_min, blocks_max}
use Rattle.words.specs.Logic.{is_zero, all_of, every, list_from}
use Rattle.words.specs.Memory.{Memory, memory, block_count, block_at, word_at, wrong_size}
use Rattle.words.proofs.Choice.{choose, choose-true, choose-false}
use Rattle.words.proofs.Logic.{all-every, and_both, get_d-list_from}
use Rattle.words.proofs.Memory.{block-length, size-facts, size-rest}
use Rattle.words.proofs.Tests.{not-no, not-zero, no_true}
use Rattle.block_log.specs.Chain.{entries_from, bad_superblock, bad_index, endless}
use Rattle.block_log.specs.Opening.{open_refusal, short_scratch}
use Rattle.block_log.proofs.Chain.{super-zeros}
use Rattle.inspection.specs.Told.{Fault}
use Rattle.inspection.specs.Breaks.{rule_at, holds, breaks1, breaks2, breaks3, breaks4, breaks5, breaks}
use Rattle.inspection.specs.Faults.{fault_at, no_fault, size_fault, scratch_fault, zeros_ahead, super_fault, last_of, link_value}
use Rattle.inspection.specs.Faults.{index_fault, endless_fault, first_bad, block_fault, entry_fault, shared_fault, end_fault, first_fault}
use Rattle.inspection.specs.Reading.{read_chain, read_log, read_file}
use Rattle.inspection.proofs.ChainRead.{chain-reads, read-member}
use Rattle.inspection.proofs.Links.{link-value, last-member, link-word, link-is, rule-4, bad-link, endless-link, rule-5}
use Rattle.inspection.proofs.Known.{known-1, known-2, known-3, known-4, known-5}

-- ---- the numbers

number-of : (t : Bool) (x y : Fault) (n : ℕ) → x.number ≡ n → y.number ≡ n → (choose t x y).number ≡ n
number-of true x y n e f = e
number-of false x y n e f = f

size_number : (E : Edition) (n : ℕ) → (size_fault E n).number ≡ 1
unfolding size_fault
size_number E n = number-of (eqb (n % E.block_words) 0) _ _ 1 (number-of (ltb (n / E.block_words) blocks_min) _ _ 1 refl refl) refl

super-number : (E : Edition) (m : Memory) → (super_fault E m).number ≡ 3
unfolding super_fault
super-number E m = number-of (eqb (word_at m 0 0) E.mark) _ _ 3 refl refl

block-number : (m : Memory) (b : ℕ) → (block_fault m b).number ≡ 6
unfolding block_fault
block-number m b =
    let rest = drop (2 + length (entries_from 2 (block_at m b))) (block_at m b) in
    number-of (is_zero (word_at m b 1)) _ _ 6 (number-of (all_of is_zero rest) _ _ 6 refl refl) refl

-- ---- the first word that is not 0

zeros-found : (xs : List ℕ) → all_of is_zero xs ≡ false → (zeros_ahead xs < length xs) × (get_or xs (zeros_ahead xs) 0 ≢ 0)
unfolding zeros_ahead
zeros-found [] h = absurd (no_true refl h)
zeros-found (zero ∷ xs) h = let r = zeros-found xs h in (omega (arith, r.0), r.1)
zeros-found (suc x ∷ xs) h = (omega arith, λ e. omega arith)

module _ (E : Edition) (words scratch : List ℕ) where
  abbrev m : Memory
  m = memory E words

  abbrev blocks : ℕ
  blocks = block_count E words

  abbrev bs : List ℕ
  bs = read_chain blocks m

  -- the fault by each number
  abbrev faults : List Fault
  faults =
      no_fault
      ∷ size_fault E (length words)
      ∷ scratch_fault (length scratch)
      ∷ super_fault E m
      ∷ index_fault m bs
      ∷ endless_fault m bs
      ∷ block_fault m (first_bad m bs)
      ∷ entry_fault E blocks m bs (length (read_log E blocks m))
      ∷ shared_fault E m bs (read_log E blocks m) (read_file E blocks m).table
      ∷ end_fault E m (read_file E blocks m)
      ∷ []

  fault-is : first_fault E words scratch ≡ get_or faults (open_refusal E words scratch) no_fault
  unfolding first_fault
  fault-is = refl

  numbers : map (λ (f : Fault). f.number) faults ≡ list_from 0 10 (λ i. i)
  unfolding index_fault endless_fault entry_fault shared_fault end_fault
  numbers = rw (size_number, super-number, block-number)

  pub fault-number : open_refusal E words scratch ≤ 9 → (first_fault E words scratch).number ≡ open_refusal E words scratch
  fault-number h =
      ap (λ (f : Fault). f.number) fault-is ∙ sym (get_or-map (λ (f : Fault). f.number) faults (open_refusal E words scratch) no_fault)
      ∙ ap (λ (l : List ℕ). get_or l (open_refusal E words scratch) 0) numbers ∙ get_d-list_from 0 10 (λ i. i) (open_refusal E words scratch) 0 (omega arith)
      ∙ omega arith

  -- the fault where the number is known
  at : (k : ℕ) → open_refusal E words scratch ≡ k → first_fault E words scratch ≡ get_or faults k no_fault
  at k e = fault-is ∙ ap (λ (n : ℕ). get_or faults n no_fault) e

  Broken : Fault → Type 0
  Broken f = breaks E words scratch f ≡ true

  -- ---- 1 and 2

  -- 1 with a rule of it, at any place
  abbrev sized : ℕ → ℕ → ℕ → Fault
  sized rule block word = record { number = 1; rule = rule; block = block; word = word; value = length words; detail = 0 }

  abbrev odd : Bool
  odd = not (eqb (length words % E.block_words) 0)

  sized-breaks : (rule block word : ℕ) → rule_at (odd ∷ ltb blocks blocks_min ∷ ltb blocks_max blocks ∷ []) rule ≡ true → Broken (sized rule block word)
  unfolding Broken breaks breaks1
  sized-breaks rule block word h = and_both (eqb (length words) (length words)) _ (eq-eqb (length words) (length words) refl) h

  size-breaks : wrong_size E words ≡ true → Broken (size_fault E (length words))
  unfolding size_fault
  size-breaks h = go (eqb (length words % E.block_words) 0) refl (ltb blocks blocks_min) refl
    where
      go : (s : Bool) → eqb (length words % E.block_words) 0 ≡ s → (t : Bool) → ltb blocks blocks_min ≡ t → Broken (size_fault E (length words))
      go false x t y =
          subst Broken (sym (choose-false (eqb (length words % E.block_words) 0) _ _ x)) (sized-breaks 1 blocks (length words % E.block_words) (not-no _ x))
      go true x true y =
          subst Broken (sym (choose-true (eqb (length words % E.block_words) 0) _ _ x ∙ choose-true (ltb blocks blocks_min) _ _ y)) (sized-breaks 2 blocks 0 y)
      go true x false y =
          let z : wrong_size E words ≡ ltb blocks_max blocks = size-rest E words (eqb-true _ _ x) (ltb-false _ _ y) in
          subst Broken (sym (choose-true (eqb (length words % E.block_words) 0) _ _ x ∙ choose-false (ltb blocks blocks_min) _ _ y))
          (sized-breaks 3 blocks_max 0 (sym z ∙ h))

  pub breaks-1 : open_refusal E words scratch ≡ 1 → breaks E words scratch (first_fault E words scratch) ≡ true
  unfolding Broken
  breaks-1 e = rw (at 1 e) (size-breaks (known-1 E words scratch e))

  scratch-breaks : short_scratch scratch ≡ true → Broken (scratch_fault (length scratch))
  unfolding Broken breaks breaks2
  scratch-breaks h = and_both (eqb (length scratch) (length scratch)) _ (eq-eqb (length scratch) (length scratch) refl) h

  pub breaks-2 : open_refusal E words scratch ≡ 2 → breaks E words scratch (first_fault E words scratch) ≡ true
  unfolding Broken
  breaks-2 e = rw (at 2 e) (scratch-breaks (known-2 E words scratch e).1)

  -- ---- 3

  -- a word of the superblock that breaks a rule of 3
  super-at : (rule word : ℕ)
      → rule_at ((eqb word 0 && not (eqb (word_at m 0 word) E.mark))
      ∷ every (leb 2 word ∷ ltb word E.block_words ∷ not (is_zero (word_at m 0 word)) ∷ []) ∷ []) rule ≡ true
      → Broken (fault_at m 3 rule 0 word 0)
  unfolding Broken breaks breaks3 holds
  super-at rule word h = all-every _ (eq-eqb (word_at m 0 word) (word_at m 0 word) refl, (refl, (h, tt)))

  super-breaks : 1 ≤ blocks → bad_superblock E m ≡ true → Broken (super_fault E m)
  unfolding super_fault
  super-breaks some h = go (eqb (word_at m 0 0) E.mark) refl
    where
      block : List ℕ
      block = block_at m 0

      z : ℕ
      z = zeros_ahead (drop 2 (block_at m 0))

      go : (t : Bool) → eqb (word_at m 0 0) E.mark ≡ t → Broken (super_fault E m)
      go false x = subst Broken (sym (choose-false (eqb (word_at m 0 0) E.mark) _ _ x)) (super-at 1 0 (not-no _ x))
      go true x =
          let e : bad_superblock E m ≡ not (all_of is_zero (drop 2 block)) = super-zeros E m (eqb-true _ _ x) in
          let f = zeros-found (drop 2 block) (not-true _ (sym e ∙ h)) in
          let l : 2 + z < E.block_words = omega (arith, f.0, length-drop 2 block, block-length E words 0 some) in
          let v : word_at m 0 (2 + z) ≢ 0 = λ w. f.1 (get_or-drop 2 block z 0 ∙ w) in
          subst Broken (sym (choose-true (eqb (word_at m 0 0) E.mark) _ _ x))
          (super-at 2 (2 + z)
          (all-every _ (le-leb 2 (2 + z) (omega arith), (lt-ltb (2 + z) E.block_words l, (not-no _ (not-zero (word_at m 0 (2 + z)) v), tt)))))

  pub breaks-3 : open_refusal E words scratch ≡ 3 → breaks E words scratch (first_fault E words scratch) ≡ true
  unfolding Broken
  breaks-3 e =
      let k = known-3 E words scratch e in
      rw (at 3 e) (super-breaks (omega (arith, (size-facts E words k.0).1)) k.2)

  -- ---- 4 and 5

  index-breaks : bad_index blocks m ≡ true → Broken (index_fault m bs)
  unfolding Broken breaks breaks4 holds index_fault
  index-breaks bad =
      let r = chain-reads blocks m in
      let v : link_value m bs ≡ r.stop = link-value m bs r.stop r.linked in
      all-every _ (
        eq-eqb (link_value m bs) (link_value m bs) refl,
        (
          link-is m bs (read-member blocks m bs r),
          (rw v (rule-4 blocks r.stop (last_of bs) (bad-link blocks m bs r bad)), tt),
        ),
      )

  pub breaks-4 : open_refusal E words scratch ≡ 4 → breaks E words scratch (first_fault E words scratch) ≡ true
  unfolding Broken
  breaks-4 e = rw (at 4 e) (index-breaks (known-4 E words scratch e).3)

  endless-breaks : bad_index blocks m ≡ false → endless m ≡ true → Broken (endless_fault m bs)
  unfolding Broken breaks breaks5 holds endless_fault
  endless-breaks inside on =
      let r = chain-reads blocks m in
      let v : link_value m bs ≡ r.stop = link-value m bs r.stop r.linked in
      let k = endless-link blocks m bs r inside on in
      all-every _ (
        eq-eqb (link_value m bs) (link_value m bs) refl,
        (
          read-member blocks m bs r (last_of bs) (last-member bs k.1),
          (
            rw (link-word bs k.1),
            (
              rw v (not-no _ (not-zero r.stop k.0)),
              (rw v (rule-5 blocks m bs r k.2), tt),
            ),
          ),
        ),
      )

  pub breaks-5 : open_refusal E words scratch ≡ 5 → breaks E words scratch (first_fault E words scratch) ≡ true
  unfolding Broken
  breaks-5 e = let k = known-5 E words scratch e in rw (at 5 e) (endless-breaks k.3 k.4)
