-- Which fault the definitions name, by the tests that the code makes on the way.
use mathlib.Core.Path.{◌≡◌, sym, ap, ◌∙◌}
use mathlib.Core.Logic.{◌≢◌}
use mathlib.Core.List.{List}
use mathlib.Core.Bool.{Bool, true, false, not}
use Prim.Native.Nat.{ℕ, ◌+◌, ◌-◌, ◌*◌, ◌/◌, ◌%◌, ◌≤◌, ◌<◌}
use native.Mathlib.Omega.{arith}
use lib.ListN.{length, get_or, drop}
use borrow.Author.Tests.{lt-ltb, le-ltb, eq-eqb, ne_eqb}
use Rattle.words.specs.Edition.{Edition, one}
use Rattle.words.specs.BlockMap.{taken}
use Rattle.words.specs.Logic.{is_zero, all_of, member}
use Rattle.words.specs.Memory.{Memory, block_at, word_at}
use Rattle.block_log.specs.Chain.{entries_from}
use Rattle.block_log.specs.Entry.{rules}
use Rattle.words.proofs.Tests.{is-zero, not-zero}
use Rattle.inspection.specs.Told.{Fault}
use Rattle.inspection.specs.Faults.{fault_at, size_fault, super_fault, zeros_ahead, last_of, link_word, link_value, index_fault, endless_fault, block_fault}
use Rattle.inspection.specs.Faults.{rule_of, first_broken, entry_fault, last_covering, first_byte, end_fault}
use Rattle.inspection.specs.Parts.{MapOfChain, first_clash, shared_by}
use Rattle.inspection.specs.Reading.{block_of, slot_of}

-- ---- 1

abbrev sized : ℕ → ℕ → ℕ → ℕ → Fault
sized rule block word n = record { number = 1; rule = rule; block = block; word = word; value = n; detail = 0 }

module _ (n blocks : ℕ) (e : blocks ≡ n / 64) where
  pub size-broken : 64 * blocks ≢ n → size_fault one n ≡ sized 1 blocks (n - 64 * blocks) n
  unfolding size_fault
  size-broken h =
      let r : n % 64 ≡ n - 64 * blocks = omega arith in
      rw (size_fault, ne_eqb (n % 64) 0 (λ z. h (omega arith)), sym e, r)

  pub size_few : 64 * blocks ≡ n → blocks < 4 → size_fault one n ≡ sized 2 blocks 0 n
  unfolding size_fault
  size_few h l = rw (size_fault, eq-eqb (n % 64) 0 (omega arith), sym e, lt-ltb blocks 4 l, sym e)

  pub size-many : 64 * blocks ≡ n → 4 ≤ blocks → size_fault one n ≡ sized 3 1024 0 n
  unfolding size_fault
  size-many h l = rw (size_fault, eq-eqb (n % 64) 0 (omega arith), sym e, le-ltb blocks 4 l)

-- ---- 3

module _ (E : Edition) (m : Memory) where
  pub super-marked : word_at m 0 0 ≢ E.mark → super_fault E m ≡ fault_at m 3 1 0 0 0
  unfolding super_fault
  super-marked h = rw (super_fault, ne_eqb (word_at m 0 0) E.mark h)

  pub super-word : word_at m 0 0 ≡ E.mark → (i : ℕ) → i ≡ 2 + zeros_ahead (drop 2 (block_at m 0)) → super_fault E m ≡ fault_at m 3 2 0 i 0
  unfolding super_fault
  super-word h i e = rw (super_fault, eq-eqb (word_at m 0 0) E.mark h, e)

-- ---- 4 and 5

module _ (m : Memory) (chain : List ℕ) (b i : ℕ) (eb : b ≡ last_of chain) (ei : i ≡ link_word chain) where
  at-link : word_at m b i ≡ link_value m chain
  at-link = rw (eb, ei)

  module _ (value : ℕ) (ev : value ≡ word_at m b i) where
    pub index-zero : value ≡ 0 → index_fault m chain ≡ fault_at m 4 1 b i 0
    unfolding index_fault
    index-zero z = rw (eb, ei, index_fault, is-zero (link_value m chain) (sym at-link ∙ sym ev ∙ z))

    pub index-out : value ≢ 0 → index_fault m chain ≡ fault_at m 4 2 b i 0
    unfolding index_fault
    index-out n = rw (eb, ei, index_fault, not-zero (link_value m chain) (λ z. n (ev ∙ at-link ∙ z)))

    module _ (logs : List ℕ) (known : MapOfChain logs chain) where
      listed : taken logs value ≡ member (link_value m chain) chain
      listed = known value ∙ ap (λ (x : ℕ). member x chain) (ev ∙ at-link)

      pub endless-round : taken logs value ≡ true → endless_fault m chain ≡ fault_at m 5 1 b i 0
      unfolding endless_fault
      endless-round t = rw (eb, ei, endless_fault, sym listed ∙ t)

      pub endless-long : taken logs value ≡ false → endless_fault m chain ≡ fault_at m 5 2 b i 0
      unfolding endless_fault
      endless-long t = rw (eb, ei, endless_fault, sym listed ∙ t)

-- ---- 6

module _ (m : Memory) (b : ℕ) where
  pub block-word : word_at m b 1 ≢ 0 → block_fault m b ≡ fault_at m 6 1 b 1 0
  unfolding block_fault
  block-word h = rw (block_fault, not-zero (word_at m b 1) h)

  module _ (z : word_at m b 1 ≡ 0) (t : ℕ) (et : t ≡ 2 + length (entries_from 2 (block_at m b))) where
    pub block-linked : all_of is_zero (drop t (block_at m b)) ≡ true → block_fault m b ≡ fault_at m 6 3 b 0 0
    unfolding block_fault
    block-linked h = rw (block_fault, is-zero (word_at m b 1) z, sym et, h)

    pub block-entry : all_of is_zero (drop t (block_at m b)) ≡ false → (i : ℕ) → i ≡ t + zeros_ahead (drop t (block_at m b))
        → block_fault m b ≡ fault_at m 6 2 b i 0
    unfolding block_fault
    block-entry h i e = rw (e, block_fault, is-zero (word_at m b 1) z, sym et, h, sym et)

-- ---- 7

pub entry_named :
    (m : Memory) (chain : List ℕ) (j b i value rule blocks : ℕ) → b ≡ block_of one chain j → i ≡ slot_of one j → value ≡ word_at m b i
    → rule ≡ first_broken (rules one blocks value) → fault_at m 7 rule b i 0 ≡ entry_fault one blocks m chain j
unfolding entry_fault
entry_named m chain j b i value rule blocks eb ei ev er = rw (er, ev, eb, ei)

-- ---- 8

module _ (m : Memory) (chain logs log table : List ℕ) (v j b i : ℕ) where
  pub shared-named :
      (t : Bool) → v ≡ first_clash logs table → j ≡ last_covering v log → b ≡ block_of one chain j → i ≡ slot_of one j → t ≡ taken logs (get_or table v 0)
      → fault_at m 8 (rule_of (not t)) b i v ≡ shared_by one m chain logs log table
  unfolding shared_by
  shared-named t ev ej eb ei et = rw (et, eb, ei, ej, ev)

-- ---- 9

pub end-named :
    (m : Memory) (table : List ℕ) (size v b q k i : ℕ) → v ≡ (size - 1) / 512 → b ≡ get_or table v 0 → q ≡ (size - 1) % 512 → k ≡ first_byte (block_at m b) (q + 1) (512 - (q + 1))
    → i ≡ k / 8 → fault_at m 9 1 b i k ≡ end_fault one m (record { table = table; size = size })
unfolding end_fault
end-named m table size v b q k i ev eb eq ek ei = rw (ei, ek, eb, ev, eq)

-- ---- words

-- a word read in a part is the word of its block
pub word_of : (m : Memory) (part : List ℕ) (b w i : ℕ) → part ≡ block_at m b → w ≡ get_or part i 0 → w ≡ word_at m b i
word_of m part b w i p e = e ∙ ap (λ (xs : List ℕ). get_or xs i 0) p
