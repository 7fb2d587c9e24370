-- The book's notes at every cut, by the invariant: the write that a joined point has under way, its offset and its text; nothing for a point
-- that is idle, reads or is not joined. So Committed, 20, 21 and a leaving must empty the note, and a beginning must write it.
use mathlib.Core.Path.{◌≡◌}
use mathlib.Core.Bool.{true, false}
use mathlib.Core.List.{List}
use mathlib.Core.Option.{none, some}
use Prim.Native.Nat.{ℕ}
use lib.ListN.{take}
use Rattle.words.specs.Edition.{Edition}
use Rattle.block_log.specs.Opening.{opened_file}
use Rattle.points.specs.Record.{is_joined, is_idle, is_writing, is_reading}
use Rattle.recovery.specs.World as W
use Rattle.recovery.specs.Book.{Book, first_book, book}
use Rattle.recovery.specs.History.{History, calls_before, events_before, at_cut}
use Rattle.recovery.proofs.Model.Invariant.{the-write}
use Rattle.recovery.proofs.Calls.Mapping.{Tied, world_of, write_of, phase_in, busy-work, idle-work, reading-work}
use Rattle.recovery.proofs.Claim.{opens-enough, same_start, bytes_before}
use Rattle.recovery.proofs.Demand3.{after_tied}

module _ {E : Edition} {L : List ℕ} (w : W.World) (bk : Book) (h : Tied E L w bk) (p : ℕ) where
  under-way : is_joined w.shared p ≡ true → is_writing (w.newest p).head.write.phase ≡ true
      → bk.note p ≡ some (record { offset = (w.newest p).head.write.offset; text = take (w.newest p).head.write.size (w.newest p).text })
  under-way j b =
      let x = (w.newest p).head.write in
      (the-write (world_of w) bk h.inv p (write_of (phase_in x.phase) x (w.newest p).text) j (busy-work x.phase x (w.newest p).text b)).text.noted

  unread : is_joined w.shared p ≡ true → is_reading (w.newest p).head.write.phase ≡ true → bk.note p ≡ none
  unread j r = (rw (reading-work (w.newest p).head.write.phase (w.newest p).head.write (w.newest p).text r) at (h.inv.points p j).work).0

  nothing : is_joined w.shared p ≡ true → is_idle (w.newest p).head.write.phase ≡ true → bk.note p ≡ none
  nothing j i = rw (idle-work (w.newest p).head.write.phase (w.newest p).head.write (w.newest p).text i) at (h.inv.points p j).work

-- the book at the cut
module _ {E : Edition} (h : History E) (p : ℕ) where
  abbrev book_at_cut : Book
  book_at_cut = book (first_book (opened_file E h.words)) (events_before h)

  pub write-noted : is_joined (at_cut h).shared p ≡ true → is_writing ((at_cut h).newest p).head.write.phase ≡ true
      → book_at_cut.note p
      ≡ some (record { offset = ((at_cut h).newest p).head.write.offset; text = take ((at_cut h).newest p).head.write.size ((at_cut h).newest p).text })
  write-noted = let t = after_tied E h.words (opens-enough h) (calls_before h) (bytes_before h) in rw (same_start h) (under-way _ _ t p)

  pub idle-not-noted : is_joined (at_cut h).shared p ≡ true → is_idle ((at_cut h).newest p).head.write.phase ≡ true → book_at_cut.note p ≡ none
  idle-not-noted = let t = after_tied E h.words (opens-enough h) (calls_before h) (bytes_before h) in rw (same_start h) (nothing _ _ t p)

  pub read-not-noted : is_joined (at_cut h).shared p ≡ true → is_reading ((at_cut h).newest p).head.write.phase ≡ true → book_at_cut.note p ≡ none
  read-not-noted = let t = after_tied E h.words (opens-enough h) (calls_before h) (bytes_before h) in rw (same_start h) (unread _ _ t p)

  pub apart-not-noted : is_joined (at_cut h).shared p ≡ false → book_at_cut.note p ≡ none
  apart-not-noted = let t = after_tied E h.words (opens-enough h) (calls_before h) (bytes_before h) in rw (same_start h) (t.inv.silent p)
