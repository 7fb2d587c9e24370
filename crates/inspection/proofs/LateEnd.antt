-- The place that is named for 9 breaks its rule: the file that was read is the image's, and a byte behind its end that is not 0 is there to be found.
use mathlib.Core.Path.{◌≡◌, refl, ap, ◌∙◌}
use mathlib.Core.Logic.{◌≢◌}
use mathlib.Core.Bool.{true, false, not}
use mathlib.Core.List.{List}
use Prim.Native.Nat.{ℕ, ◌-◌, ◌/◌, ◌≤◌, ◌<◌}
use native.Mathlib.Omega.{arith}
use lib.ListN.{get_or}
use borrow.Author.Tests.{eq-eqb, le-leb, lt-ltb, not-true}
use Rattle.words.specs.Edition.{Edition, one, block_bytes}
use Rattle.words.specs.Logic.{is_zero, some_of, up_from}
use Rattle.words.specs.Memory.{Memory, memory, block_count, block_at, byte_in}
use Rattle.words.proofs.Logic.{all-every, and_left, and_right}
use Rattle.words.proofs.Memory.{size-facts}
use Rattle.words.proofs.Tests.{nonzero}
use Rattle.block_log.specs.Chain.{log}
use Rattle.block_log.specs.Opening.{open_refusal, bad_entry, file_of}
use Rattle.block_log.specs.Replay.{Mapped, replay, empty_file, end_in, dirty_end}
use Rattle.block_log.proofs.Cover.{fresh}
use Rattle.block_log.proofs.Opening.{Passed}
use Rattle.block_log.proofs.Sound.{Sound, sound-fresh, sound-replay}
use Rattle.inspection.specs.Breaks.{breaks, breaks9}
use Rattle.inspection.specs.Faults.{first_fault, end_fault, first_byte}
use Rattle.inspection.specs.Reading.{read_file}
use Rattle.inspection.proofs.Entries.{file-same}
use Rattle.inspection.proofs.Firsts.{byte-found}
use Rattle.inspection.proofs.Known.{known-9}
use Rattle.inspection.proofs.Late.{named-9, by_number, holds-it}

-- the file of an image that 1 to 7 do not refuse
pub file-sound : {E : Edition} {words scratch : List ℕ} → Passed E words scratch → bad_entry E (block_count E words) (log (memory E words)) ≡ false
    → Sound E (block_count E words) (file_of E (memory E words))
unfolding file_of replay fresh
file-sound {E} {words} p h =
    sound-replay E (block_count E words) (log (memory E words)) empty_file h
    (sound-fresh E (block_count E words) (omega (arith, (size-facts E words p.size).1)))

-- the byte that is named
module _ (E : Edition) (words scratch : List ℕ) where
  abbrev m : Memory
  m = memory E words

  abbrev f : Mapped
  f = file_of E m

  abbrev last_block : ℕ
  last_block = get_or f.table ((f.size - 1) / block_bytes E) 0

  abbrev last : List ℕ
  last = block_at m last_block

  abbrev end : ℕ
  end = end_in E f.size

  module _ (h : dirty_end E m f ≡ true) where
    pub end-some : f.size ≢ 0
    unfolding dirty_end
    end-some = nonzero f.size (not-true (is_zero f.size) (and_left (not (is_zero f.size)) _ h))

    dirty : some_of (λ k. not (is_zero (byte_in last k))) (up_from end (block_bytes E - end)) ≡ true
    unfolding dirty_end
    dirty = and_right (not (is_zero f.size)) _ h

    end-breaks : breaks9 E words scratch (end_fault E m f) ≡ true
    unfolding breaks9 end_fault
    end-breaks =
        let k = first_byte last end (block_bytes E - end) in
        let r = byte-found last end (block_bytes E - end) dirty in
        let inside : k < block_bytes E = omega (arith, r.0, r.1) in
        all-every _ (
          holds-it E words scratch (end_fault E m f) refl,
          (eq-eqb last_block last_block refl, (eq-eqb (k / 8) (k / 8) refl, (le-leb end k r.0, (lt-ltb k (block_bytes E) inside, (r.2, tt))))),
        )

  end-number : (end_fault E m f).number ≡ 9
  unfolding end_fault
  end-number = refl

pub breaks-9 : (E : Edition) (words scratch : List ℕ) → open_refusal E words scratch ≡ 9 → breaks E words scratch (first_fault E words scratch) ≡ true
breaks-9 E words scratch e =
    let k = known-9 E words scratch e in
    let n : first_fault E words scratch ≡ end_fault E (memory E words) (file_of E (memory E words)) =
    named-9 E words scratch e ∙ ap (end_fault E (memory E words)) (file-same k.0 k.1) in
    rw n (by_number E words scratch (end_fault E (memory E words) (file_of E (memory E words))) 8 (end-number E words scratch)
    (end-breaks E words scratch k.3))

-- the file read is not empty, and ends where a file may end
pub nine-size :
    (words scratch : List ℕ) → open_refusal one words scratch ≡ 9
    → (1 ≤ (read_file one (block_count one words) (memory one words)).size) × ((read_file one (block_count one words) (memory one words)).size ≤ 131072)
nine-size words scratch e =
    let k = known-9 one words scratch e in
    rw (file-same k.0 k.1) (omega (arith, end-some one words scratch k.3), (file-sound k.0 k.1).small)
