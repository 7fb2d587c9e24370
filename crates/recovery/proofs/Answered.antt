-- What is shown is what is answered: opening's length, and what a joined point sees caught up. FORWARD says that the entries ahead of a
-- point take its view to the current one, which is the file that opening shows.
use mathlib.Core.Path.{◌≡◌, refl, sym, ap, ◌∙◌, subst}
use mathlib.Core.List.{List, [], ◌∷◌}
use mathlib.Core.Bool.{true}
use Prim.Native.Nat.{ℕ, zero, suc, ◌+◌, ◌*◌, ◌-◌, min, ◌<◌}
use native.Mathlib.Omega.{arith}
use lib.ListN.{length, get_or, take, drop}
use lib.Dec.{leb}
use borrow.Author.Tests.{lt-leb}
use Rattle.words.specs.Edition.{Edition, block_bytes, file_blocks}
use Rattle.words.specs.Logic.{◌when◌, is_zero, list_from}
use Rattle.words.specs.Memory.{Memory, memory, block_count}
use Rattle.block_log.specs.declared.Opened.{Opened}
use Rattle.block_log.specs.Refusals.{Refused}
use Rattle.block_log.specs.Replay.{Mapped, mapped_byte, file_byte, file_bytes, replay_on}
use Rattle.block_log.specs.CatchUp as K
use Rattle.block_log.specs.Opening.{open_refusal, opened, opened_with, no_shared, file_of, opened_file}
use Rattle.points.specs.Record.{is_joined, file_at, broken_ahead}
use Rattle.points.specs.Reading.{seen, read_refusal, read_count, reading, buffer_after, locate_refusal, located}
use Rattle.recovery.specs.World as W
use Rattle.recovery.specs.World.{world}
use Rattle.recovery.specs.Book.{Book}
use Rattle.recovery.specs.History.{enough, open_world, calls_before, at_cut}
use Rattle.recovery.specs.Claim.{Recovery, part_of, ReadsFile, Answered}
use Rattle.words.proofs.Logic.{length-list_from, take-list_from, drop-list_from}
use Rattle.words.proofs.Choice.{choose, chosen-zero, chosen-suc}
use Rattle.block_log.proofs.Sound.{replay-on}
use Rattle.block_log.proofs.Shown.{byte-view}
use Rattle.recovery.proofs.Opening.Opens.{file-is, core-file}
use Rattle.recovery.proofs.Calls.Mapping.{Tied}
use Rattle.recovery.proofs.Calls.Begin.{ahead-is}
use Rattle.recovery.proofs.Calls.NotRefused.{record-passed, not-broken}
use Rattle.recovery.proofs.Claim.{enough-long, opens-enough, same_start, bytes_before}
use Rattle.recovery.proofs.Demand3.{after_tied, recovery}

-- an image that opens is answered with the length of the file that it shows
opened-length : (E : Edition) (words scratch : List ℕ) → open_refusal E words scratch ≡ 0
    → (opened E words scratch).length ≡ length (opened_file E words)
unfolding opened opened_with opened_file file_bytes
opened-length E words scratch e =
    ap (λ (o : Opened). o.length)
    (chosen-zero (open_refusal E words scratch) (opened_with E (block_count E words) (memory E words))
    (λ n. record { reply = Refused (suc n); length = 0; entries = 0; free = 0; shared = no_shared }) e)
    ∙ sym (length-list_from 0 (file_of E (memory E words)).size (file_byte E (memory E words) (file_of E (memory E words))))

-- what a joined point sees is what the log gives
module _ {E : Edition} {L : List ℕ} (w : W.World) (bk : Book) (h : Tied E L w bk) (n : ℕ) (j : is_joined w.shared n ≡ true) where
  sees : seen E w.words w.shared (w.newest n).head (w.newest n).table ≡ file_of E (memory E w.words)
  unfolding seen
  sees =
      let pi = h.inv.points n j in
      let f = file_at (w.newest n).head (w.newest n).table in
      ap (λ (r : K.Walk). replay_on E f r.entries) (ahead-is w bk h n j) ∙ replay-on E pi.ahead f ∙ pi.place.catches
      ∙ sym (file-is h.inv.core)

-- a part of a file whose bytes are counted out
part-from : (f : ℕ → ℕ) (offset room n : ℕ) → part_of (list_from 0 n f) offset room ≡ list_from offset (min room (n - offset)) f
part-from f offset room n =
    let e : 0 + offset ≡ offset = omega arith in
    let d : drop offset (list_from 0 n f) ≡ list_from offset (n - offset) f = rw e at (drop-list_from offset 0 n f) in
    ap (take room) d ∙ take-list_from room offset (n - offset) f

-- ---- what a joined point reads

module _ {E : Edition} {L : List ℕ} (w : W.World) (bk : Book) (h : Tied E L w bk) (n : ℕ) (j : is_joined w.shared n ≡ true) where
  abbrev m : Memory
  m = memory E w.words

  abbrev f : Mapped
  f = seen E w.words w.shared (w.newest n).head (w.newest n).table

  read-on : read_refusal E w.words w.shared (w.newest n).head (w.newest n).table ≡ 0
  unfolding read_refusal
  read-on = record-passed w bk h n j (broken_ahead E w.words w.shared (w.newest n).head ∷ []) ∙ rw (not-broken w bk h n j)

  count_is : (offset room : ℕ) → read_count E w.words w.shared (w.newest n).head (w.newest n).table offset room ≡ min room (f.size - offset)
  unfolding read_count
  count_is offset room = chosen-zero (read_refusal E w.words w.shared (w.newest n).head (w.newest n).table) _ (λ k. 0) read-on

  part-is : (offset room : ℕ) → part_of (file_bytes E m f) offset room ≡ list_from offset (min room (f.size - offset)) (file_byte E m f)
  unfolding file_bytes
  part-is offset room = part-from (file_byte E m f) offset room f.size

  part_length : (offset room : ℕ) → length (part_of (file_bytes E m f) offset room) ≡ min room (f.size - offset)
  part_length offset room = ap length (part-is offset room) ∙ length-list_from offset (min room (f.size - offset)) (file_byte E m f)

  -- of locating's reasons 22 alone decides
  abbrev block : ℕ → ℕ
  block v = get_or f.table v 0

  locate-by : (v : ℕ) → v < file_blocks
      → locate_refusal E w.words w.shared (w.newest n).head (w.newest n).table v ≡ choose (is_zero (block v)) 22 0
  unfolding locate_refusal
  locate-by v l =
      record-passed w bk h n j (17 when leb file_blocks v ∷ broken_ahead E w.words w.shared (w.newest n).head ∷ 22 when is_zero (block v) ∷ [])
      ∙ rw (lt-leb file_blocks v l, not-broken w bk h n j)

  -- the block located is the one mapped, be it none
  located-is : (v : ℕ) → v < file_blocks → located E w.words w.shared (w.newest n).head (w.newest n).table v ≡ block v
  unfolding located
  located-is v l = go (block v) refl
    where
      go : (b : ℕ) → block v ≡ b → located E w.words w.shared (w.newest n).head (w.newest n).table v ≡ block v
      go zero e = chosen-suc _ 21 (block v) (λ k. 0) (locate-by v l ∙ rw e) ∙ sym e
      go (suc b) e = chosen-zero _ (block v) (λ k. 0) (locate-by v l ∙ rw e)

  locates-file : (v q : ℕ) → v < file_blocks → q < block_bytes E
      → mapped_byte m (located E w.words w.shared (w.newest n).head (w.newest n).table v) q ≡ get_or (file_bytes E m f) (block_bytes E * v + q) 0
  unfolding opened_file
  locates-file v q l k =
      let c = h.inv.core in
      let at : f ≡ h.inv.cur = sees w bk h n j ∙ file-is c in
      let shows : file_bytes E m f ≡ bk.file = ap (file_bytes E m) (sees w bk h n j) ∙ core-file c in
      rw (located-is v l, shows, at) (byte-view E w.words w.shared.blocks c.image.size (get_or h.inv.cur.table v 0) q k
      ∙ sym (c.file.file_bytes v q l k))

  reads-seen : ReadsFile E w n (file_bytes E m f)
  unfolding reading buffer_after
  reads-seen = record {
    sees = refl;
    counts = λ offset room. rw (read-on, count_is offset room, part_length offset room);
    fills = λ offset buffer. rw (count_is offset (length buffer), part_length offset (length buffer), part-is offset (length buffer));
    locates = locates-file;
  }

  reads-file : ReadsFile E w n (opened_file E w.words)
  unfolding opened_file
  reads-file = subst (ReadsFile E w n) (ap (file_bytes E m) (sees w bk h n j)) reads-seen

pub answered : (E : Edition) → Answered E
unfolding Answered Recovery
answered E h = (
  λ scratch long. let r = recovery E h scratch long in opened-length E (at_cut h).words scratch r.0 ∙ ap length r.1,
  λ p j. subst (ReadsFile E (at_cut h) p) (recovery E h enough enough-long).1
      (at (at_cut h) (ap (λ (w : W.World). world E w (calls_before h)) (same_start h)) p j),
)
  where
    there : W.World
    there = world E (open_world E h.words enough) (calls_before h)

    at : (w : W.World) → w ≡ there → (p : ℕ) → is_joined w.shared p ≡ true → ReadsFile E w p (opened_file E w.words)
    at w e p j =
        let t = after_tied E h.words (opens-enough h) (calls_before h) (bytes_before h) in
        rw e (reads-file there _ t p (rw e at j))
