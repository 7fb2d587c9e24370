-- The fault that is named for 6 to 9 by its definition, and the rule of its number; and that of 7: the word behind the entries read is not empty and
-- breaks one of an entry's rules.
use mathlib.Core.Path.{◌≡◌, refl, ap, ◌∙◌}
use mathlib.Core.Bool.{Bool, true, false}
use mathlib.Core.List.{List, [], ◌∷◌}
use Prim.Native.Nat.{ℕ, suc, ◌-◌, ◌*◌, ◌<◌}
use native.Mathlib.Omega.{arith}
use lib.ListN.{length, get_or}
use borrow.Author.Tests.{eq-eqb, le-leb, lt-ltb}
use Rattle.words.specs.Edition.{Edition, one}
use Rattle.words.specs.Logic.{is_zero, some_of, every}
use Rattle.words.specs.Memory.{Memory, memory, block_count, word_at}
use Rattle.words.proofs.Logic.{all-every}
use Rattle.words.proofs.Tests.{not-no, not-zero}
use Rattle.block_log.specs.Chain.{chain, slots_of, outside}
use Rattle.block_log.specs.Entry.{rules, legal}
use Rattle.block_log.specs.Opening.{open_refusal}
use Rattle.block_log.proofs.Opening.{Passed}
use Rattle.block_log.proofs.Start.{chain-inside}
use Rattle.inspection.specs.Told.{Fault}
use Rattle.inspection.specs.Breaks.{rule_at, breaks, breaks1, breaks2, breaks3, breaks4, breaks5, breaks6, breaks7, breaks8, breaks9, holds}
use Rattle.inspection.specs.Faults.{first_fault, block_fault, first_bad, entry_fault, first_broken, shared_fault, end_fault}
use Rattle.inspection.specs.Reading.{read_chain, read_log, read_file, block_of, slot_of}
use Rattle.inspection.proofs.Entries.{Broken, chain_same, log-broken}
use Rattle.inspection.proofs.Firsts.{FirstFails, broken-found}
use Rattle.inspection.proofs.Known.{known-7}
use Rattle.inspection.proofs.Places.{place-count, place-word, place-block, slot-in}

-- ---- the fault named, and its number's rule

module _ (E : Edition) (words scratch : List ℕ) where
  abbrev m : Memory
  m = memory E words

  abbrev blocks : ℕ
  blocks = block_count E words

  pub named-6 : open_refusal E words scratch ≡ 6 → first_fault E words scratch ≡ block_fault m (first_bad m (read_chain blocks m))
  unfolding first_fault
  named-6 e = rw e

  pub named-7 :
      open_refusal E words scratch ≡ 7 → first_fault E words scratch ≡ entry_fault E blocks m (read_chain blocks m) (length (read_log E blocks m))
  unfolding first_fault
  named-7 e = rw e

  pub named-8 :
      open_refusal E words scratch ≡ 8
      → first_fault E words scratch ≡ shared_fault E m (read_chain blocks m) (read_log E blocks m) (read_file E blocks m).table
  unfolding first_fault
  named-8 e = rw e

  pub named-9 : open_refusal E words scratch ≡ 9 → first_fault E words scratch ≡ end_fault E m (read_file E blocks m)
  unfolding first_fault
  named-9 e = rw e

  module _ (f : Fault) where
    -- the rules of the numbers, in their order
    abbrev numbers : List Bool
    numbers =
        breaks1 E words scratch f
        ∷ breaks2 E words scratch f
        ∷ breaks3 E words scratch f
        ∷ breaks4 E words scratch f
        ∷ breaks5 E words scratch f
        ∷ breaks6 E words scratch f
        ∷ breaks7 E words scratch f
        ∷ breaks8 E words scratch f
        ∷ breaks9 E words scratch f
        ∷ []

    pub by_number : (k : ℕ) → f.number ≡ suc k → get_or numbers k false ≡ true → breaks E words scratch f ≡ true
    unfolding breaks
    by_number k n h = ap (rule_at numbers) n ∙ h

    -- the place holds the value named
    pub holds-it : word_at m f.block f.word ≡ f.value → holds E words scratch f ≡ true
    unfolding holds
    holds-it e = eq-eqb (word_at m f.block f.word) f.value e

-- ---- 7

module _ (E : Edition) (words scratch : List ℕ) (e : open_refusal E words scratch ≡ 7) where
  passed : Passed E words scratch
  passed = (known-7 E words scratch e).0

  abbrev cs : List ℕ
  cs = chain (memory E words)

  abbrev j : ℕ
  j = length (read_log E (block_count E words) (memory E words))

  broken : Broken E (block_count E words) (slots_of (memory E words) cs) j
  broken = log-broken passed (known-7 E words scratch e).1

  inside : some_of (outside (block_count E words)) cs ≡ false
  inside = chain-inside E words passed.index

  j-in : j < (E.block_words - 2) * length cs
  j-in = omega (arith, broken.inside, place-count E words cs inside)

  pub seven-in : length (read_log E (block_count E words) (memory E words)) < (E.block_words - 2) * length (read_chain (block_count E words) (memory E words))
  seven-in = rw (chain_same passed) j-in

  value : word_at (memory E words) (block_of E cs j) (slot_of E j) ≡ get_or (slots_of (memory E words) cs) j 0
  value = place-word E words cs inside j j-in

  wrong : every (rules E (block_count E words) (get_or (slots_of (memory E words) cs) j 0)) ≡ false
  unfolding legal
  wrong = broken.wrong

  ruled : FirstFails (rules E (block_count E words) (word_at (memory E words) (block_of E cs j) (slot_of E j)))
      (first_broken (rules E (block_count E words) (word_at (memory E words) (block_of E cs j) (slot_of E j))))
  ruled = broken-found (rules E (block_count E words) (word_at (memory E words) (block_of E cs j) (slot_of E j))) (rw value wrong)

  named : first_fault E words scratch ≡ entry_fault E (block_count E words) (memory E words) cs j
  named = named-7 E words scratch e ∙ ap (λ (l : List ℕ). entry_fault E (block_count E words) (memory E words) l j) (chain_same passed)

  entry-breaks : breaks7 E words scratch (entry_fault E (block_count E words) (memory E words) cs j) ≡ true
  unfolding breaks7 entry_fault
  entry-breaks = all-every _ (
    holds-it E words scratch (entry_fault E (block_count E words) (memory E words) cs j) refl,
    (
      all-every _ (place-block E words cs j j-in, (le-leb _ _ (slot-in E j).0, (lt-ltb _ _ (slot-in E j).1, tt))),
      (
        not-no (is_zero (word_at (memory E words) (block_of E cs j) (slot_of E j))) (rw value (not-zero _ broken.some)),
        (le-leb _ _ ruled.counted, (not-no _ ruled.fails, (ruled.before, tt))),
      ),
    ),
  )

  number : (entry_fault E (block_count E words) (memory E words) cs j).number ≡ 7
  unfolding entry_fault
  number = refl

  pub breaks-7 : breaks E words scratch (first_fault E words scratch) ≡ true
  breaks-7 = rw named (by_number E words scratch (entry_fault E (block_count E words) (memory E words) cs j) 6 number entry-breaks)

-- edition one's, as the code asks for it
pub seven-inside :
    (words scratch : List ℕ) → open_refusal one words scratch ≡ 7
    → length (read_log one (block_count one words) (memory one words)) < 62 * length (read_chain (block_count one words) (memory one words))
seven-inside words scratch e = seven-in one words scratch e
