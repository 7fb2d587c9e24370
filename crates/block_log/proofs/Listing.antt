-- The rows of a listing: all 0 where opening is refused, which its answer shows by a block count of 0; else the table that catching up makes.
use mathlib.Core.Path.{◌≡◌, ◌∙◌, refl, ap}
use mathlib.Core.Logic.{◌≢◌}
use mathlib.Core.List.{List}
use mathlib.Core.Bool.{false}
use Prim.Native.Nat.{ℕ, zero, suc, ◌≤◌, ◌%◌, ◌^◌}
use native.Mathlib.Omega.{arith}
use lib.ListN.{replicate}
use Rattle.words.specs.Edition.{Edition, one}
use Rattle.words.specs.Memory.{memory, block_count}
use Rattle.block_log.specs.CatchUp.{ahead, broken}
use Rattle.block_log.specs.Chain.{first_index}
use Rattle.block_log.specs.Listing.{rows_of}
use Rattle.block_log.specs.Opening.{open_refusal, shared_at_opening, opened_with, opened}
use Rattle.block_log.specs.Replay.{Mapped, replay_on}
use Rattle.block_log.specs.declared.Opened.{Opened}
use Rattle.block_log.specs.declared.Place.{Place}
use Rattle.words.proofs.Memory.{size-facts}
use Rattle.block_log.proofs.Opening.{refusal-passed, refused-opened, done-opened}
use Rattle.block_log.proofs.Outcome.{blocks-small, at-start, walk-bad, taken_in}

module _ (E : Edition) (words scratch : List ℕ) where
  abbrev answered : ℕ
  answered = (opened E words scratch).shared.blocks

  opened-count : open_refusal E words scratch ≡ 0 → answered ≡ block_count E words
  unfolding opened_with shared_at_opening
  opened-count e = ap (λ (o : Opened). o.shared.blocks) (done-opened E words scratch e)

  refused-count : (n : ℕ) → open_refusal E words scratch ≡ suc n → answered ≡ 0
  refused-count n e = ap (λ (o : Opened). o.shared.blocks) (refused-opened E words scratch n e)

  pub rows-refused : answered ≡ 0 → replicate 256 0 ≡ rows_of E words scratch
  unfolding rows_of
  rows-refused z = go (open_refusal E words scratch) refl
    where
      go : (n : ℕ) → open_refusal E words scratch ≡ n → replicate 256 0 ≡ rows_of E words scratch
      go (suc n) e = rw (e, rows_of)
      go zero e = let f = size-facts E words (refusal-passed E words scratch e).0.size in absurd (omega (arith, f.1, opened-count e))

  not_refused : answered ≢ 0 → open_refusal E words scratch ≡ 0
  not_refused some = go (open_refusal E words scratch) refl
    where
      go : (n : ℕ) → open_refusal E words scratch ≡ n → open_refusal E words scratch ≡ 0
      go zero e = e
      go (suc n) e = absurd (some (refused-count n e))

-- what catching up makes of the log's start; the place of that start is edition one's (`start_of`, in the laws of Outcome)
module _ (words scratch : List ℕ) (some : answered one words scratch ≢ 0) (st : Place)
    (es : st ≡ record { block = first_index (memory one words) % 2 ^ 32; slot = 2 }) where
  pub rows-opened :
      (table : List ℕ) (size : ℕ)
      → (answered one words scratch ≤ 1024
      → broken one (answered one words scratch) (ahead one (memory one words) (answered one words scratch) st) ≡ false
      → ◌≡◌ {A = Mapped} (record { table = table; size = size })
      (replay_on one (record { table = replicate 256 0; size = 0 }) (ahead one (memory one words) (answered one words scratch) st).entries))
      → table ≡ rows_of one words scratch
  unfolding rows_of
  rows-opened table size caught =
      let none = not_refused one words scratch some in
      let k = refusal-passed one words scratch none in
      let s = at-start k.0 st es in
      let c : answered one words scratch ≡ block_count one words = opened-count one words scratch none in
      let taken = rw c at caught in
      let h = taken_in k.0 k.1 st s table size (taken (blocks-small one k.0) (walk-bad k.0 st s ∙ k.1)) in
      ap (λ (f : Mapped). f.table) h.file ∙ (rw (none, rows_of))
