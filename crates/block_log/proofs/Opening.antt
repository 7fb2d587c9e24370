-- Opening: it asks of the scratch only whether it is long enough; and its ways out, by the reasons in their order.
use mathlib.Core.Path.{◌≡◌, ◌∙◌, refl, sym, ap}
use mathlib.Core.Logic.{◌≢◌}
use mathlib.Core.List.{List, ◌∷◌, [], ◌++◌}
use mathlib.Core.Bool.{true, false}
use Prim.Native.Nat.{ℕ, ◌≤◌, zero, suc, ◌<◌, ◌-◌}
use native.Mathlib.Omega.{arith}
use lib.Dec.{ltb, leb}
use lib.ListN.{length, drop, replicate}
use borrow.Author.Tests.{ltb-false, le-ltb, lt-ltb, leb-true}
use Rattle.std.specs.Prelude.{Err}
use Rattle.words.specs.Edition.{Edition, blocks_max, one}
use Rattle.words.specs.Logic.{Reason, ◌when◌, list_from, first}
use Rattle.words.specs.Memory.{memory, block_count, wrong_size, Memory}
use Rattle.block_log.specs.declared.Refusal.{Refusal}
use Rattle.block_log.specs.Refusals.{Reply, Done}
use Rattle.block_log.specs.Chain.{chain, log, bad_superblock, bad_index, endless, bad_log}
use Rattle.block_log.specs.Opening.{reply_of, number_of, no_shared, short_scratch, content_reasons, open_refusal, opened, bad_entry, file_of, refused_with, opened_with, scratch_mark, scratch_after}
use Rattle.block_log.specs.Parts.{early}
use Rattle.block_log.specs.Replay.{shares_block, dirty_end}
use Rattle.words.proofs.Tests.{first-front, first-is, passes}
use Rattle.block_log.proofs.Replies.{number-some, done_none}

module _ (E : Edition) (words : List ℕ) where
  -- where opening does not refuse, the scratch is long enough
  pub scratch-long : (s : List ℕ) → open_refusal E words s ≡ 0 → blocks_max ≤ length s
  unfolding open_refusal content_reasons
  scratch-long s h =
      ltb-false (length s) blocks_max
      (passes (1 when wrong_size E words ∷ 2 when short_scratch s ∷ content_reasons E (block_count E words) (memory E words)) refl h 1)

  module _ (s t : List ℕ) (long : blocks_max ≤ length s) (long' : blocks_max ≤ length t) where
    pub refusal-scratch : open_refusal E words s ≡ open_refusal E words t
    unfolding open_refusal
    refusal-scratch = rw (le-ltb (length s) blocks_max long, le-ltb (length t) blocks_max long')

    pub opened-scratch : opened E words s ≡ opened E words t
    unfolding opened
    opened-scratch = rw (refusal-scratch, opened)

-- ---- the ways out

-- 1 to 6 are passed
pub record Passed (E : Edition) (words scratch : List ℕ) : Type 0 where
  pub size : wrong_size E words ≡ false
  pub long : ltb (length scratch) 1024 ≡ false
  pub super : bad_superblock E (memory E words) ≡ false
  pub index : bad_index (block_count E words) (memory E words) ≡ false
  pub ends : endless (memory E words) ≡ false
  pub log-blocks : bad_log (memory E words) ≡ false

-- 1 to 7 are, where opening is not refused
pub refusal-passed :
    (E : Edition) (words scratch : List ℕ) → open_refusal E words scratch ≡ 0
    → Passed E words scratch × (bad_entry E (block_count E words) (log (memory E words)) ≡ false)
unfolding open_refusal content_reasons
refusal-passed E words scratch h =
    let f = passes (1 when wrong_size E words ∷ 2 when short_scratch scratch ∷ content_reasons E (block_count E words) (memory E words)) refl h in
    (record { size = f 0; long = f 1; super = f 2; index = f 3; ends = f 4; log-blocks = f 5 }, f 6)

module _ (E : Edition) (words scratch : List ℕ) where
  abbrev m : Memory
  m = memory E words

  abbrev pub late : List Reason
  late = 7 when bad_entry E (block_count E words) (log m) ∷ 8 when shares_block (file_of E m).table (chain m) ∷ 9 when dirty_end E m (file_of E m) ∷ []

  -- refused by the reason n + 1: the scratch is untouched up to 7, and cleared from 8 on
  module _ (n : ℕ) (e : open_refusal E words scratch ≡ suc n) where
    pub refused-opened : opened E words scratch ≡ refused_with (suc n)
    unfolding opened
    refused-opened = rw (e, opened)

    pub refused-scratch : n < 7 → scratch_after E words scratch ≡ scratch
    unfolding scratch_after
    refused-scratch h = rw (e, scratch_after, lt-ltb (suc n) 8 (omega arith))

    pub refused-cleared : 7 ≤ n → scratch_after E words scratch ≡ replicate 1024 0 ++ drop 1024 scratch
    unfolding scratch_after
    refused-cleared h = rw (e, scratch_after, le-ltb (suc n) 8 (omega arith))

  module _ (p : Passed E words scratch) where
    late_is : open_refusal E words scratch ≡ first late
    unfolding open_refusal content_reasons
    late_is = rw (p.size, p.long, p.super, p.index, p.ends, p.log-blocks)

    pub is-7 : bad_entry E (block_count E words) (log m) ≡ true → open_refusal E words scratch ≡ 7
    is-7 h = late_is ∙ (rw h)

    module _ (h7 : bad_entry E (block_count E words) (log m) ≡ false) where
      pub is-8 : shares_block (file_of E m).table (chain m) ≡ true → open_refusal E words scratch ≡ 8
      is-8 h = late_is ∙ (rw (h7, h))

      module _ (h8 : shares_block (file_of E m).table (chain m) ≡ false) where
        pub is-9 : dirty_end E m (file_of E m) ≡ true → open_refusal E words scratch ≡ 9
        is-9 h = late_is ∙ (rw (h7, h8, h))

        pub is-0 : dirty_end E m (file_of E m) ≡ false → open_refusal E words scratch ≡ 0
        is-0 h = late_is ∙ (rw (h7, h8, h))

  module _ (e : open_refusal E words scratch ≡ 0) where
    pub done-opened : opened E words scratch ≡ opened_with E (block_count E words) m
    unfolding opened
    done-opened = rw (e, opened)

    pub done-scratch : scratch_after E words scratch ≡ list_from 0 1024 (scratch_mark (file_of E m).table (chain m)) ++ drop 1024 scratch
    unfolding scratch_after
    done-scratch = rw (e, scratch_after)

-- ---- the early tests, which the code makes in one (`early`, edition one's)

pub passed-early : (words scratch : List ℕ) → reply_of (first (early words (length scratch))) ≡ Done → Passed one words scratch
unfolding early
passed-early words scratch h =
    let f = passes (early words (length scratch)) refl (done_none _ h) in
    record { size = f 0; long = f 1; super = f 2; index = f 3; ends = f 4; log-blocks = f 5 }

module _ (words scratch : List ℕ) where
  all-reasons : open_refusal one words scratch ≡ first (early words (length scratch) ++ late one words scratch)
  unfolding open_refusal content_reasons early
  all-reasons = refl

  early-few : (k : ℕ) → first (early words (length scratch)) ≡ suc k → suc k ≤ 6
  unfolding early
  early-few k e = leb-true (suc k) 6 (first-is (λ n. leb n 6) (early words (length scratch)) refl k e)

  -- refused by one of them: by its number, and what is answered and left
  pub early-refusal : (r : ℕ) → r ≡ first (early words (length scratch)) → r ≢ 0 → open_refusal one words scratch ≡ suc (r - 1)
  early-refusal r er ne = all-reasons ∙ first-front (early words (length scratch)) (late one words scratch) (λ z. ne (er ∙ z)) ∙ sym er ∙ omega arith

  pub early-out :
      (e : Refusal) → reply_of (first (early words (length scratch))) ≡ Err e
      → (opened one words scratch ≡ record { reply = Err e; length = 0; entries = 0; free = 0; shared = no_shared }) × (scratch_after one words scratch ≡ scratch)
  early-out e h = go (first (early words (length scratch))) refl
    where
      go : (n : ℕ) → first (early words (length scratch)) ≡ n
          → (opened one words scratch ≡ record { reply = Err e; length = 0; entries = 0; free = 0; shared = no_shared }) × (scratch_after one words scratch ≡ scratch)
      go zero x = let z = ap number_of (rw x at h) in let l = number-some e in absurd (omega arith)
      go (suc k) x =
          let q : reply_of (suc k) ≡ Err e = rw x at h in
          let r : open_refusal one words scratch ≡ suc k = early-refusal (suc k) (sym x) (λ z. absurd (omega (arith, z))) ∙ omega arith in (
            refused-opened one words scratch k r
                ∙ ap (λ (y : Reply). record { reply = y; length = 0; entries = 0; free = 0; shared = no_shared }) q,
            refused-scratch one words scratch k r (omega (arith, early-few k x)),
          )
