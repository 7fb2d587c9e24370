-- What opening has in hand past its early tests, in the words of the definitions: the file, the bounds that its parts ask for, and each way out.
use mathlib.Core.Path.{◌≡◌, ◌∙◌, sym, ap}
use mathlib.Core.List.{List, ◌++◌}
use mathlib.Core.Bool.{true, false, Bool}
use Prim.Native.Nat.{ℕ, ◌+◌, ◌≤◌, ◌<◌, ◌*◌, ◌%◌, ◌^◌}
use native.Mathlib.Nat.{mod-eq_of_lt}
use native.Mathlib.Omega.{arith}
use lib.ListN.{length, drop, replicate, length-replicate, length-append}
use lib.Seq.{drop_at}
use borrow.Author.Tests.{ltb-false}
use Rattle.words.specs.BlockMap.{map_of, free_count}
use Rattle.words.specs.Edition.{Edition, one, file_end}
use Rattle.words.specs.Logic.{list_from}
use Rattle.words.specs.Memory.{memory, block_count}
use Rattle.block_log.specs.CatchUp.{Walk, ahead, broken}
use Rattle.block_log.specs.Chain.{first_index, chain, log}
use Rattle.block_log.specs.Opening.{bad_entry, file_of, open_refusal, refused_with, nobody_joined, taken_at_opening}
use Rattle.block_log.specs.Opening.{shared_at_opening, opened_with, opened, scratch_mark, scratch_after}
use Rattle.block_log.specs.Parts.{start_of, Takable, Markable}
use Rattle.block_log.specs.Replay.{Mapped, replay_on, empty_file, replay, shares_block, dirty_end}
use Rattle.block_log.specs.declared.Place.{Place}
use Rattle.block_log.specs.Refusals.{Done}
use Rattle.words.proofs.Memory.{size-facts}
use Rattle.block_log.proofs.Chain.{inside-outside}
use Rattle.block_log.proofs.Cover.{fresh}
use Rattle.block_log.proofs.Opening.{Passed, refused-opened, refused-scratch, refused-cleared, is-7, is-8, is-9, is-0, done-opened, done-scratch}
use Rattle.block_log.proofs.Sound.{Sound, sound-fresh, sound-replay}
use Rattle.block_log.proofs.Start.{chain-inside, first-inside, chain-few, start-entries, start-broken, log-count, chain-count}

-- clearing leaves what stands behind
cleared-rest : (scratch s : List ℕ) → s ≡ replicate 1024 0 ++ drop 1024 scratch → drop 1024 s ≡ drop 1024 scratch
cleared-rest scratch s e = ap (drop 1024) e ∙ drop_at (replicate 1024 0) (drop 1024 scratch) 1024 (length-replicate {A = ℕ} 1024 0)

-- 1 to 7 are passed, and this is the file
pub record Held (E : Edition) (words scratch table : List ℕ) (size : ℕ) : Type 0 where
  pub passed : Passed E words scratch
  pub legal : bad_entry E (block_count E words) (log (memory E words)) ≡ false
  pub file : ◌≡◌ {A = Mapped} (record { table = table; size = size }) (file_of E (memory E words))

-- ---- past 1 to 6

module _ (E : Edition) {words scratch : List ℕ} (p : Passed E words scratch) where
  pub blocks-small : block_count E words ≤ 1024
  blocks-small = (size-facts E words p.size).2

  pub scratch-enough : 1024 ≤ length scratch
  scratch-enough = ltb-false (length scratch) 1024 p.long

  first_small : first_index (memory E words) < 1024
  first_small = let h = first-inside E words p.index in let k = blocks-small in omega arith

  -- 7
  pub out-7 :
      bad_entry E (block_count E words) (log (memory E words)) ≡ true
      → (opened E words scratch ≡ refused_with 7) × (scratch_after E words scratch ≡ scratch)
  out-7 h = let e = is-7 E words scratch p h in (refused-opened E words scratch 6 e, refused-scratch E words scratch 6 e (omega arith))

-- `start_of` is edition one's
module _ {words scratch : List ℕ} (p : Passed one words scratch) where
  -- the walk begins at the log's start
  pub at-start : (st : Place) → st ≡ record { block = first_index (memory one words) % 2 ^ 32; slot = 2 } → st ≡ start_of words
  at-start st e = e ∙ ap (λ (b : ℕ). record { block = b; slot = 2 }) (mod-eq_of_lt (omega (arith, first_small one p)))

  pub walk-bad :
      (st : Place) → st ≡ start_of words
      → broken one (block_count one words) (ahead one (memory one words) (block_count one words) st)
      ≡ bad_entry one (block_count one words) (log (memory one words))
  walk-bad st e = rw e (start-broken words p.index p.ends)

  -- the log's length and the chain's, from what the walk saw
  pub count_is :
      (w : Walk) → w ≡ ahead one (memory one words) (block_count one words) (start_of words)
      → (2 ≤ w.slot + 62 * w.entered) × (w.slot ≤ 64) × (w.entered ≤ 63) × ((n : ℕ) → n + 2 ≡ w.slot + 62 * w.entered → n ≡ length (log (memory one words)))
      × (w.entered + 1 ≡ length (chain (memory one words)))
  count_is w e =
      let k = log-count words p.index p.ends in
      let c = chain-count words p.index p.ends p.log-blocks in
      let few = (chain-few one words p.index p.ends).0 in
      rw e (omega (arith, k.0), k.1, omega (arith, c, few), λ n h. omega (arith, k.0), omega (arith, c))

  -- the entries are legal, and taken in
  pub taken_in :
      bad_entry one (block_count one words) (log (memory one words)) ≡ false → (st : Place) → st ≡ start_of words → (table : List ℕ) (size : ℕ)
      → ◌≡◌ {A = Mapped} (record { table = table; size = size })
      (replay_on one (record { table = replicate 256 0; size = 0 }) (ahead one (memory one words) (block_count one words) st).entries)
      → Held one words scratch table size
  unfolding file_of replay
  taken_in h7 st es table size ef = record {
    passed = p;
    legal = h7;
    file =
        ef ∙ ap (replay_on one empty_file)
        (ap (λ (s : Place). (ahead one (memory one words) (block_count one words) s).entries) es ∙ start-entries words p.index p.ends);
  }

-- ---- from the file on

module _ (E : Edition) {words scratch table : List ℕ} {size : ℕ} (h : Held E words scratch table size) where
  table_is : table ≡ (file_of E (memory E words)).table
  table_is = ap (λ (f : Mapped). f.table) h.file

  size_is : size ≡ (file_of E (memory E words)).size
  size_is = ap (λ (f : Mapped). f.size) h.file

  sound : Sound E (block_count E words) (record { table = table; size = size })
  unfolding file_of replay fresh
  sound =
      rw h.file (sound-replay E (block_count E words) (log (memory E words)) empty_file h.legal
      (sound-fresh E (block_count E words) (omega (arith, (size-facts E words h.passed.size).1))))

  pub file-small : size ≤ file_end E
  file-small = sound.small

  module _ (met : Bool) (em : met ≡ shares_block table (chain (memory E words))) where
    met-is : met ≡ shares_block (file_of E (memory E words)).table (chain (memory E words))
    met-is = em ∙ ap (λ (t : List ℕ). shares_block t (chain (memory E words))) table_is

    -- 8
    pub out-8 : met ≡ true → (opened E words scratch ≡ refused_with 8) × (scratch_after E words scratch ≡ replicate 1024 0 ++ drop 1024 scratch)
    out-8 t =
        let e = is-8 E words scratch h.passed h.legal (sym met-is ∙ t) in
        (refused-opened E words scratch 7 e, refused-cleared E words scratch 7 e (omega arith))

    module _ (h8 : met ≡ false) (dirty : Bool) (ed : dirty ≡ dirty_end E (memory E words) (record { table = table; size = size })) where
      dirty-is : dirty ≡ dirty_end E (memory E words) (file_of E (memory E words))
      dirty-is = ed ∙ ap (dirty_end E (memory E words)) h.file

      -- 9
      pub out-9 : dirty ≡ true → (opened E words scratch ≡ refused_with 9) × (scratch_after E words scratch ≡ replicate 1024 0 ++ drop 1024 scratch)
      out-9 t =
          let e = is-9 E words scratch h.passed h.legal (sym met-is ∙ h8) (sym dirty-is ∙ t) in
          (refused-opened E words scratch 8 e, refused-cleared E words scratch 8 e (omega arith))

      -- done
      module _ (h9 : dirty ≡ false) where
        none : open_refusal E words scratch ≡ 0
        none = is-0 E words scratch h.passed h.legal (sym met-is ∙ h8) (sym dirty-is ∙ h9)

        pub out-opened :
            (map : List ℕ) (n free links : ℕ) → map ≡ map_of (taken_at_opening table (chain (memory E words))) → n ≡ length (log (memory E words))
            → free ≡ free_count map (block_count E words) → links ≡ length (chain (memory E words))
            → opened E words scratch
            ≡ record {
              reply = Done;
              length = size;
              entries = n;
              free = free;
              shared = nobody_joined (block_count E words) map links;
            }
        unfolding opened_with shared_at_opening
        out-opened map n free links ek en efr el = done-opened E words scratch none ∙ (rw (en, efr, el, ek, table_is, size_is))

        pub out-scratch :
            (s out : List ℕ) → s ≡ replicate 1024 0 ++ drop 1024 scratch
            → out ≡ list_from 0 1024 (scratch_mark table (chain (memory E words))) ++ drop 1024 s
            → out ≡ scratch_after E words scratch
        out-scratch s out e eo = eo ∙ (rw (cleared-rest scratch s e, table_is)) ∙ sym (done-scratch E words scratch none)

-- `Takable` and `Markable` are edition one's
module _ {words scratch table : List ℕ} {size : ℕ} (h : Held one words scratch table size) where
  pub takable : Takable words table
  takable = record {
    fits = record { entries = (sound one h).width; inside = λ v. omega (arith, (sound one h).in_image v, (size-facts one words h.passed.size).2) };
    chained =
        inside-outside (block_count one words) 1024 (chain (memory one words)) (size-facts one words h.passed.size).2
        (chain-inside one words h.passed.index);
  }

  pub markable : (s : List ℕ) → s ≡ replicate 1024 0 ++ drop 1024 scratch → Markable words table s
  markable s e = record {
    known = takable;
    long = omega (arith, ap length e, length-append (replicate {A = ℕ} 1024 0) (drop 1024 scratch), length-replicate {A = ℕ} 1024 0);
    clear = e ∙ ap (λ (k : List ℕ). replicate 1024 0 ++ k) (sym (cleared-rest scratch s e));
  }
