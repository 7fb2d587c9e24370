-- What the search for the first fault goes by: from the arrays of what was read, the lists of the definitions.
use mathlib.Core.Path.{◌≡◌, refl, sym, ap, ◌∙◌}
use mathlib.Core.Logic.{◌⊎◌, inl, inr}
use mathlib.Core.List.{List, [], ◌∷◌}
use mathlib.Core.Bool.{false}
use Prim.Native.Nat.{ℕ, zero, suc, ◌≤◌, ◌<◌}
use native.Mathlib.Omega.{arith}
use lib.ListN.{length, take, drop, replicate}
use lib.Seq.{take-append_seam}
use borrow.Author.Tests.{ne_eqb}
use Rattle.words.specs.Edition.{one}
use Rattle.words.specs.Logic.{member}
use Rattle.words.specs.Memory.{Memory, memory, block_count, wrong_size}
use Rattle.words.proofs.MapOf.{Below, taken-set_all-zero, sound-zeros, zeros-free}
use Rattle.words.proofs.Memory.{size-facts}
use Rattle.words.proofs.Tests.{no_true}
use Rattle.block_log.specs.Opening.{open_refusal}
use Rattle.block_log.specs.Replay.{Mapped}
use Rattle.block_log.proofs.Chain.{Positive, outside_below, inside-outside}
use Rattle.inspection.specs.Reading.{read_chain, read_log, read_file}
use Rattle.inspection.specs.Inspecting.{padded}
use Rattle.inspection.specs.Faults.{no_fault, scratch_fault, super_fault, index_fault, endless_fault, shared_fault, first_fault}
use Rattle.inspection.specs.Parts.{MapOfChain, Readings, map_with, first_clash, shared_by}
use Rattle.inspection.proofs.ChainRead.{read-facts}
use Rattle.inspection.proofs.Clash.{with-taken}
use Rattle.inspection.proofs.LateShared.{eight-found, eight-same}
use Rattle.inspection.proofs.Known.{known-1}

-- ---- a list with zeros behind it

-- its first so many are the list
pub take-padded : (n : ℕ) (xs : List ℕ) (k : ℕ) → k ≡ length xs → take k (padded n xs) ≡ xs
take-padded n xs k e = rw e (take-append_seam xs (drop (length xs) (replicate n 0)))

-- ---- the map of the log blocks

no_zero : (cs : List ℕ) → Positive cs → member 0 cs ≡ false
no_zero [] p = refl
no_zero (c ∷ cs) p = rw (ne_eqb 0 c (λ e. p.0 (sym e))) (no_zero cs p.1)

pub map-known : (cs : List ℕ) → Below cs → Positive cs → MapOfChain (map_with cs) cs
map-known cs h p zero = taken-set_all-zero (replicate 16 0) cs h sound-zeros ∙ zeros-free 0 ∙ sym (no_zero cs p)
map-known cs h p (suc b) = with-taken cs cs h h (suc b) (λ e. omega arith)

-- ---- from what was read

module _ {words chained map written rows : List ℕ} {end : ℕ} (g : Readings words chained map written rows end) where
  abbrev blocks : ℕ
  blocks = block_count one words

  abbrev cs : List ℕ
  cs = read_chain blocks (memory one words)

  abbrev es : List ℕ
  es = read_log one blocks (memory one words)

  pub blocks-few : blocks ≤ 1024
  blocks-few = (size-facts one words g.size).2

  pub chain-below : Below cs
  chain-below = outside_below cs (inside-outside blocks 1024 cs blocks-few (read-facts blocks (memory one words)).0)

  pub logs-known : MapOfChain map chained
  logs-known = rw (g.chain, g.logs) (map-known cs chain-below (read-facts blocks (memory one words)).2)

  pub rows_are : rows ≡ (read_file one blocks (memory one words)).table
  rows_are = ap (λ (f : Mapped). f.table) g.file

  pub end_is : end ≡ (read_file one blocks (memory one words)).size
  end_is = ap (λ (f : Mapped). f.size) g.file

-- ---- the fault by opening's number

module _ (words scratch : List ℕ) where
  abbrev B : ℕ
  B = block_count one words

  abbrev m : Memory
  m = memory one words

  pub named-0 : open_refusal one words scratch ≡ 0 → first_fault one words scratch ≡ no_fault
  unfolding first_fault
  named-0 e = rw e

  pub named-2 : open_refusal one words scratch ≡ 2 → first_fault one words scratch ≡ scratch_fault (length scratch)
  unfolding first_fault
  named-2 e = rw e

  pub named-3 : open_refusal one words scratch ≡ 3 → first_fault one words scratch ≡ super_fault one m
  unfolding first_fault
  named-3 e = rw e

  pub named-4 : open_refusal one words scratch ≡ 4 → first_fault one words scratch ≡ index_fault m (read_chain B m)
  unfolding first_fault
  named-4 e = rw e

  pub named-5 : open_refusal one words scratch ≡ 5 → first_fault one words scratch ≡ endless_fault m (read_chain B m)
  unfolding first_fault
  named-5 e = rw e

  -- of a right size it is not 1
  pub past-one : (k : ℕ) → k ≡ open_refusal one words scratch → wrong_size one words ≡ false → (k ≡ 0) ⊎ (2 ≤ k)
  past-one k e size = go k e
    where
      go : (k : ℕ) → k ≡ open_refusal one words scratch → (k ≡ 0) ⊎ (2 ≤ k)
      go zero e = inl refl
      go (suc zero) e = absurd (no_true (known-1 one words scratch (sym e)) size)
      go (suc (suc k)) e = inr (omega arith)

-- ---- 8, from what was read

module _ {words chained map written rows : List ℕ} {end : ℕ} (g : Readings words chained map written rows end) where
  module _ (scratch : List ℕ) (e : open_refusal one words scratch ≡ 8) where
    pub clash-few : first_clash map rows < 256
    clash-few = rw (g.logs, rows_are g) (eight-found words scratch e)

    pub shared_is :
        shared_by one (memory one words) chained map written rows
        ≡ shared_fault one (memory one words) (cs g) (es g) (read_file one (blocks g) (memory one words)).table
    shared_is = rw (g.chain, g.logs, rows_are g, g.entries) (eight-same words scratch e)
