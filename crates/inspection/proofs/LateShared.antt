-- The place that is named for 8 breaks its rule: the first shared block is there since 8 holds, it is not 0, so an entry covers its virtual block, and
-- the last one that does maps it there. And the same search with a map of the log blocks, as the code makes it.
use mathlib.Core.Path.{◌≡◌, refl, sym, ◌∙◌}
use mathlib.Core.Bool.{Bool, true, false, ◌||◌, not}
use mathlib.Core.List.{List, [], ◌∷◌}
use Prim.Native.Nat.{ℕ, ◌+◌, ◌-◌, ◌*◌, ◌<◌}
use native.Mathlib.Omega.{arith}
use lib.ListN.{length, get_or, take}
use borrow.Author.Tests.{eq-eqb, le-leb, lt-ltb}
use Rattle.words.specs.Edition.{Edition, one}
use Rattle.words.specs.Logic.{is_zero, some_of, member}
use Rattle.words.specs.Memory.{Memory, memory, block_count, word_at}
use Rattle.words.proofs.Logic.{all-every, up_to_zero-le}
use Rattle.words.proofs.MapOf.{Below}
use Rattle.words.proofs.Memory.{size-facts}
use Rattle.words.proofs.Tests.{not-no, not-zero}
use Rattle.block_log.specs.Chain.{first_index, chain, log, slots_of, outside}
use Rattle.block_log.specs.Entry.{entry_v, entry_b, covers}
use Rattle.block_log.specs.Opening.{open_refusal, bad_entry, file_of}
use Rattle.block_log.specs.Replay.{shares_block}
use Rattle.block_log.proofs.Chain.{Positive, chain-positive, outside_below, inside-outside}
use Rattle.block_log.proofs.Opening.{Passed}
use Rattle.block_log.proofs.Start.{chain-inside}
use Rattle.block_log.proofs.Taken.{table_below}
use Rattle.inspection.specs.Breaks.{rule_at, breaks, breaks8}
use Rattle.inspection.specs.Faults.{rule_of, first_fault, first_shared, last_covering, shared_fault}
use Rattle.inspection.specs.Parts.{first_clash, map_with, shared_by}
use Rattle.inspection.specs.Reading.{read_chain, read_log, read_file, block_of, slot_of}
use Rattle.inspection.proofs.Clash.{Met, with-taken, clash-first, shared-in, shared-again}
use Rattle.inspection.proofs.Entries.{up_at, chain_same, log-same, file-same}
use Rattle.inspection.proofs.Known.{known-8}
use Rattle.inspection.proofs.LastCovering.{MapsTo, replay-covered}
use Rattle.inspection.proofs.Late.{named-8, by_number, holds-it}
use Rattle.inspection.proofs.LateEnd.{file-sound}
use Rattle.inspection.proofs.Places.{place-count, place-word, place-block, slot-in}

-- of two rules that one is broken: the first, else the second
rule-of : (s t : Bool) → s || t ≡ true → rule_at (s ∷ t ∷ []) (rule_of (not s)) ≡ true
rule-of true t h = refl
rule-of false t h = h

module _ (E : Edition) (words scratch : List ℕ) (e : open_refusal E words scratch ≡ 8) where
  abbrev m : Memory
  m = memory E words

  abbrev blocks : ℕ
  blocks = block_count E words

  abbrev cs : List ℕ
  cs = chain m

  abbrev es : List ℕ
  es = log m

  abbrev table : List ℕ
  table = (file_of E m).table

  passed : Passed E words scratch
  passed = (known-8 E words scratch e).0

  good : bad_entry E blocks es ≡ false
  good = (known-8 E words scratch e).1

  shares : shares_block table cs ≡ true
  shares = (known-8 E words scratch e).2

  inside : some_of (outside blocks) cs ≡ false
  inside = chain-inside E words passed.index

  chain-below : Below cs
  chain-below = outside_below cs (inside-outside blocks 1024 cs (size-facts E words passed.size).2 inside)

  table-in : Below table
  table-in = table_below table (λ v. omega (arith, (file-sound passed good).in_image v, (size-facts E words passed.size).2))

  positive : Positive cs
  unfolding chain
  positive = chain-positive m 64 (first_index m)

  abbrev v : ℕ
  v = first_shared cs [] table

  v-in : v < 256
  v-in = omega (arith, shared-in cs table chain-below table-in positive shares, (file-sound passed good).width)

  met : Met cs [] table v
  met = shared-again cs table chain-below table-in positive shares

  abbrev j : ℕ
  j = last_covering v es

  maps : MapsTo E v es j (get_or table v 0)
  unfolding file_of
  maps = replay-covered E v blocks es good met.some

  -- the entry's place
  j-in : j < (E.block_words - 2) * length cs
  unfolding log
  j-in = omega (arith, maps.inside, up_to_zero-le (slots_of m cs), place-count E words cs inside)

  value : word_at m (block_of E cs j) (slot_of E j) ≡ get_or es j 0
  unfolding log
  value = place-word E words cs inside j j-in ∙ sym (up_at (slots_of m cs) j maps.inside)

  abbrev w : ℕ
  w = word_at m (block_of E cs j) (slot_of E j)

  over : covers v w ≡ true
  over = rw value maps.over

  block : get_or table v 0 ≡ entry_b w + (v - entry_v w)
  block = rw value maps.block

  again : member (entry_b w + (v - entry_v w)) cs || member (entry_b w + (v - entry_v w)) (take v table) ≡ true
  again = rw block at met.again

  rule : rule_at (member (entry_b w + (v - entry_v w)) cs ∷ member (entry_b w + (v - entry_v w)) (take v table) ∷ [])
      (rule_of (not (member (get_or table v 0) cs))) ≡ true
  rule = rw block (rule-of (member (entry_b w + (v - entry_v w)) cs) (member (entry_b w + (v - entry_v w)) (take v table)) again)

  some : is_zero (entry_b w + (v - entry_v w)) ≡ false
  some = rw (← block) (not-zero (get_or table v 0) met.some)

  shared-breaks : breaks8 E words scratch (shared_fault E m cs es table) ≡ true
  unfolding breaks8 shared_fault
  shared-breaks = all-every _ (
    holds-it E words scratch (shared_fault E m cs es table) refl,
    (
      all-every _ (place-block E words cs j j-in, (le-leb _ _ (slot-in E j).0, (lt-ltb _ _ (slot-in E j).1, tt))),
      (over, (eq-eqb (get_or table v 0) (entry_b w + (v - entry_v w)) block, (not-no (is_zero (entry_b w + (v - entry_v w))) some, (rule, tt)))),
    ),
  )

  number : (shared_fault E m cs es table).number ≡ 8
  unfolding shared_fault
  number = refl

  named : first_fault E words scratch ≡ shared_fault E m cs es table
  named = named-8 E words scratch e ∙ rw (chain_same passed, log-same passed good, file-same passed good)

  pub breaks-8 : breaks E words scratch (first_fault E words scratch) ≡ true
  breaks-8 = rw named (by_number E words scratch (shared_fault E m cs es table) 7 number shared-breaks)

  -- with the map of the log blocks
  clash-in : first_clash (map_with cs) table < 256
  clash-in = rw (clash-first cs table chain-below table-in) v-in

  by_map : shared_by E m cs (map_with cs) es table ≡ shared_fault E m cs es table
  unfolding shared_by shared_fault
  by_map = rw (clash-first cs table chain-below table-in, with-taken cs table chain-below table-in (get_or table v 0) met.some)

  shared-found :
      (first_clash (map_with (read_chain blocks m)) (read_file E blocks m).table < 256)
      × (shared_by E m (read_chain blocks m) (map_with (read_chain blocks m)) (read_log E blocks m) (read_file E blocks m).table
      ≡ shared_fault E m (read_chain blocks m) (read_log E blocks m) (read_file E blocks m).table)
  shared-found = rw (chain_same passed, log-same passed good, file-same passed good) (clash-in, by_map)

-- edition one's, as the code asks for it
module _ (words scratch : List ℕ) (e : open_refusal one words scratch ≡ 8) where
  abbrev image : Memory
  image = memory one words

  abbrev count : ℕ
  count = block_count one words

  pub eight-found : first_clash (map_with (read_chain count image)) (read_file one count image).table < 256
  eight-found = (shared-found one words scratch e).0

  pub eight-same :
      shared_by one image (read_chain count image) (map_with (read_chain count image)) (read_log one count image) (read_file one count image).table
      ≡ shared_fault one image (read_chain count image) (read_log one count image) (read_file one count image).table
  eight-same = (shared-found one words scratch e).1
