-- Beginning: its reasons in their order, the text in its array, and what it answers. Assumes nothing.
use Prim.Native.Nat.{ℕ, zero, suc, ◌+◌, ◌-◌, ◌≤◌, ◌<◌}
use native.Mathlib.Numerals.{add-one}
use native.Mathlib.Nat.{zero-add}
use native.Mathlib.Omega.{arith}
use mathlib.Core.Path.{◌≡◌, refl, sym, ◌∙◌, ap, subst}
use mathlib.Core.Bool.{true, false, not}
use mathlib.Core.List.{◌++◌, List, [], ◌∷◌}
use lib.ListN.{length, replicate, drop, set, get_or}
use lib.Seq.{paste, paste-suc, take-length}
use Rattle.words.specs.Edition.{Edition, one}
use Rattle.words.specs.Logic.{Reason, first, ◌when◌}
use Rattle.words.specs.Memory.{memory}
use Rattle.words.specs.BlockMap.{set_run}
use Rattle.words.proofs.Choice.{chosen-zero}
use Rattle.words.proofs.Tests.{not-zero}
use Rattle.block_log.specs.declared.Shared.{Shared}
use Rattle.block_log.specs.declared.Place.{Place}
use Rattle.std.specs.Prelude.{Err}
use Rattle.block_log.specs.declared.Refusal.{Refusal}
use Rattle.block_log.specs.Refusals.{Done, number}
use Rattle.block_log.specs.CatchUp.{Walk, place_after, ahead, broken}
use Rattle.block_log.specs.Replay.{Mapped, replay_on}
use Rattle.points.specs.declared.Head.{Head}
use Rattle.points.specs.declared.Point.{Point}
use Rattle.points.specs.declared.Begun.{Begun}
use Rattle.points.specs.declared.LentBegun.{LentBegun}
use Rattle.points.specs.declared.Numbers.{Numbers}
use Rattle.points.specs.Record.{no_text, is_idle, bad_text, past_end, span, file_at, caught_up, unfit}
use Rattle.points.specs.Search.{shared_of, numbers_of, Known, search, with_taken, reporting, reporting_place}
use Rattle.points.specs.Lent.{begun_shared, begun_of}
use Rattle.points.specs.Start.{Settled, Started}
use Rattle.points.specs.Calls.{begin_refusal, beginning, begin_read_refusal, beginning_read, text_of, new_write, new_read}
use Rattle.points.proofs.Fits.{of-known}
use Rattle.points.proofs.RecordFacts.{TextFits, text-facts, shared-facts}
use Rattle.points.proofs.NotRefused.{write-refused, write-goes-on, begin-either, begin-shared, begin-text, begin-end, begin-sound}
use Rattle.block_log.proofs.Replies.{refused-by}
use Rattle.points.proofs.RecordReasons.{unfit-before, fit-goes-on}

-- ---- the text

abbrev zeros : ℕ → List ℕ
zeros n = replicate n 0

drop-zeros : (n m : ℕ) → drop n (zeros m) ≡ zeros (m - n)
drop-zeros zero m = let e : m - 0 ≡ m = omega arith in rw e
drop-zeros (suc n) zero = let e : 0 - suc n ≡ 0 = omega arith in rw e
drop-zeros (suc n) (suc m) = let e : suc m - suc n ≡ m - n = omega arith in rw e (drop-zeros n m)

-- the text in their place
pub text-put : (text : List ℕ) → text ++ drop (length text) no_text ≡ text_of text
unfolding no_text
text-put text = rw drop-zeros

text-length : length no_text ≡ 1024
unfolding no_text
text-length = refl

-- a turn of the loop that copies, and its end
pub text-next :
    (text : List ℕ) (i : ℕ) (bytes : List ℕ) → i < length text → length text ≤ 1024 → bytes ≡ paste no_text 0 text i
    → set bytes i (get_or text i 0) ≡ paste no_text 0 text (i + 1)
text-next text i bytes l h e =
    rw (e, add-one)
    (subst (λ (k : ℕ). set (paste no_text 0 text i) k (get_or text i 0) ≡ paste no_text 0 text (suc i)) (zero-add i)
    (paste-suc no_text 0 text i 0 (omega (arith, text-length)) l))

pub text-end : (text : List ℕ) → paste no_text 0 text (length text) ≡ text_of text
unfolding no_text
text-end text = rw (take-length, zero-add, drop-zeros)

-- ---- the reasons

-- of either kind
module _ (E : Edition) (words : List ℕ) (s : Shared) (h : Head) (table : List ℕ) (offset size : ℕ) where
  abbrev refusal : ℕ
  refusal = begin_read_refusal E words s h table offset size

  abbrev walk : Walk
  walk = ahead E (memory E words) s.blocks h.place

  -- those after 10, 11 and 14
  abbrev more : List Reason
  more =
      15 when not (is_idle h.write.phase) ∷ 16 when bad_text size ∷ 17 when past_end E offset size ∷ 18 when broken E s.blocks walk ∷ []

  pub begin-unfit : (r : ℕ) → r ≡ unfit E words s h table → (r ≡ 0 → ⊥) → r ≡ refusal
  unfolding begin_read_refusal
  begin-unfit zero e ne = absurd (ne refl)
  begin-unfit (suc k) e ne = sym (unfit-before E words s h table more k (sym e))

  module _ (e : unfit E words s h table ≡ 0) where
    after-14 : refusal ≡ first more
    unfolding begin_read_refusal
    after-14 = fit-goes-on E words s h table e more

    pub begin-15 : is_idle h.write.phase ≡ false → 15 ≡ refusal
    begin-15 x = sym (after-14 ∙ rw x)

    module _ (i : is_idle h.write.phase ≡ true) where
      pub begin-16 : bad_text size ≡ true → 16 ≡ refusal
      begin-16 x = sym (after-14 ∙ rw (i, x))

      module _ (t : bad_text size ≡ false) where
        pub begin-17 : past_end E offset size ≡ true → 17 ≡ refusal
        begin-17 x = sym (after-14 ∙ rw (i, t, x))

        module _ (p : past_end E offset size ≡ false) where
          pub begin-18 : broken E s.blocks walk ≡ true → 18 ≡ refusal
          begin-18 x = sym (after-14 ∙ rw (i, t, p, x))

          pub begin-0 : broken E s.blocks walk ≡ false → 0 ≡ refusal
          begin-0 x = sym (after-14 ∙ rw (i, t, p, x))

-- what is settled where there is a reason. The contracts that these serve are edition one's
module _ (words : List ℕ) (n : Numbers) (h : Head) (table : List ℕ) (offset size : ℕ) where
  pub settled-refused :
      (e : Refusal) → ((taken reports : List ℕ) → Known n reports
      → number e ≡ begin_read_refusal one words (shared_of n taken reports) h table offset size)
      → Settled words n h table offset size (Err e)
  settled-refused e x = record { refusal = x; tail = tt }

-- a write's: a reason of either kind, then 19
module _ (E : Edition) (words : List ℕ) (s : Shared) (p : Point) (offset size : ℕ) where
  pub begin-first : (r : ℕ) → r ≡ begin_read_refusal E words s p.head p.table offset size → (r ≡ 0 → ⊥)
      → r ≡ begin_refusal E words s p.head p.table offset size
  begin-first zero e ne = absurd (ne refl)
  begin-first (suc k) e ne = sym (write-refused E words s p offset size k (sym e))

  module _ (e : begin_read_refusal E words s p.head p.table offset size ≡ 0) where
    pub begin-19 : search s (span E offset size) ≡ 0 → 19 ≡ begin_refusal E words s p.head p.table offset size
    begin-19 x = sym (write-goes-on E words s p offset size e ∙ rw x)

    pub begin-found-0 : (search s (span E offset size) ≡ 0 → ⊥) → 0 ≡ begin_refusal E words s p.head p.table offset size
    begin-found-0 x = sym (write-goes-on E words s p offset size e ∙ rw (not-zero (search s (span E offset size)) x))

module _ (words : List ℕ) (s : Shared) (h : Head) (table : List ℕ) (offset size : ℕ) where
  pub start-refused : (e : Refusal) → number e ≡ begin_refusal one words s h table offset size → Started words s h table offset size (Err e)
  start-refused e x = record { refusal = x; tail = tt; found = tt }

-- ---- the answers

module _ (E : Edition) (words : List ℕ) (s : Shared) (p : Point) (offset : ℕ) (text : List ℕ) where
  pub begin-refused : (e : Refusal) → number e ≡ begin_refusal E words s p.head p.table offset (length text)
      → record { reply = Err e; shared = s; point = p } ≡ beginning E words s p offset text
  unfolding beginning
  begin-refused e h =
      refused-by e (begin_refusal E words s p.head p.table offset (length text)) _ (λ x. record { reply = Err x; shared = s; point = p }) h

-- what a beginning that is not refused has passed
pub record Ready (E : Edition) (words : List ℕ) (s : Shared) (p : Point) (offset : ℕ) (text : List ℕ) : Type 0 where
  pub none : begin_refusal E words s p.head p.table offset (length text) ≡ 0
  pub sound : broken E s.blocks (ahead E (memory E words) s.blocks p.head.place) ≡ false
  pub few : s.blocks ≤ 1024
  pub fits : TextFits E offset (length text)

module _ (E : Edition) (words : List ℕ) (s : Shared) (p : Point) (offset : ℕ) (text : List ℕ) where
  pub ready : begin_refusal E words s p.head p.table offset (length text) ≡ 0 → Ready E words s p offset text
  ready e =
      let i = begin-either E words s p offset (length text) e in
      let f = shared-facts E words s (begin-shared E words s p offset (length text) i) in
      record {
        none = e;
        sound = begin-sound E words s p offset (length text) i;
        few = f.few-blocks;
        fits = text-facts E offset (length text) (begin-text E words s p offset (length text) i) (begin-end E words s p offset (length text) i);
      }

  pub begin-done :
      Ready E words s p offset text → (place : Place) (run n size : ℕ) (table bytes : List ℕ) (head : Head) (t : Shared)
      → place ≡ place_after (ahead E (memory E words) s.blocks p.head.place) → run ≡ search s (span E offset (length text))
      → record { table = table; size = size } ≡ replay_on E (file_at p.head p.table) (ahead E (memory E words) s.blocks p.head.place).entries
      → bytes ≡ text_of text → head ≡ record { number = p.head.number; length = size; place = place; write = new_write offset (length text) run }
      → n ≡ span E offset (length text) → t ≡ reporting_place head (with_taken s (set_run true s.taken run n))
      → record { reply = Done; shared = t; point = record { head = head; table = table; text = bytes } } ≡ beginning E words s p offset text
  unfolding beginning caught_up
  begin-done r place run n size table bytes head t ep er ef eb eh en et =
      rw (et, eh, eb, en, ep, er)
      (ap begun ef ∙ sym (chosen-zero (begin_refusal E words s p.head p.table offset (length text)) _ _ r.none))
    where
      begun : Mapped → Begun
      begun f =
          record {
            reply = Done;
            shared =
                reporting (with_taken s (set_run true s.taken (search s (span E offset (length text))) (span E offset (length text))))
                p.head.number (place_after (ahead E (memory E words) s.blocks p.head.place)).block;
            point =
                record {
                  head =
                      record {
                        number = p.head.number;
                        length = f.size;
                        place = place_after (ahead E (memory E words) s.blocks p.head.place);
                        write = new_write offset (length text) (search s (span E offset (length text)));
                      };
                  table = f.table;
                  text = text_of text;
                };
          }

-- ---- the answers of a read's beginning

module _ (E : Edition) (words : List ℕ) (s : Shared) (p : Point) (offset size : ℕ) where
  abbrev unread : ℕ
  unread = begin_read_refusal E words s p.head p.table offset size

  pub begin-read-refused : (e : Refusal) → number e ≡ unread → record { reply = Err e; shared = s; point = p } ≡ beginning_read E words s p offset size
  unfolding beginning_read
  begin-read-refused e h = refused-by e unread _ (λ x. record { reply = Err x; shared = s; point = p }) h

  -- what a read's beginning that is not refused has passed
  pub record ReadReady : Type 0 where
    pub none : unread ≡ 0
    pub sound : broken E s.blocks (ahead E (memory E words) s.blocks p.head.place) ≡ false
    pub few : s.blocks ≤ 1024
    pub fits : TextFits E offset size

  pub read-ready : unread ≡ 0 → ReadReady
  read-ready e =
      record {
        none = e;
        sound = begin-sound E words s p offset size e;
        few = (shared-facts E words s (begin-shared E words s p offset size e)).few-blocks;
        fits = text-facts E offset size (begin-text E words s p offset size e) (begin-end E words s p offset size e);
      }

  pub begin-read-done :
      unread ≡ 0 → (place : Place) (length : ℕ) (table text : List ℕ) (head : Head)
      → place ≡ place_after (ahead E (memory E words) s.blocks p.head.place)
      → record { table = table; size = length } ≡ replay_on E (file_at p.head p.table) (ahead E (memory E words) s.blocks p.head.place).entries
      → text ≡ no_text → head ≡ record { number = p.head.number; length = length; place = place; write = new_read offset size }
      → record { reply = Done; shared = reporting_place head s; point = record { head = head; table = table; text = text } } ≡ beginning_read E words s p offset size
  unfolding beginning_read caught_up
  begin-read-done none place length table text head ep ef et eh = rw (eh, et, ep) (ap begun ef ∙ sym (chosen-zero unread _ _ none))
    where
      begun : Mapped → Begun
      begun f =
          record {
            reply = Done;
            shared = reporting s p.head.number (place_after (ahead E (memory E words) s.blocks p.head.place)).block;
            point =
                record {
                  head =
                      record {
                        number = p.head.number;
                        length = f.size;
                        place = place_after (ahead E (memory E words) s.blocks p.head.place);
                        write = new_read offset size;
                      };
                  table = f.table;
                  text = no_text;
                };
          }

-- a beginning on a whole shared record, by its numbers and its map
pub whole-begin :
    (words : List ℕ) (s : Shared) (p : Point) (offset : ℕ) (text : List ℕ) (n : Numbers) (left : LentBegun) (taken table kept : List ℕ) (t : Shared)
    → n ≡ numbers_of s → t ≡ begun_shared left.reply left.head (with_taken s taken)
    → ((reports : List ℕ) → Known n reports → begun_of n left taken reports table kept ≡ beginning one words (shared_of n s.taken reports) p offset text)
    → record { reply = left.reply; shared = t; point = record { head = left.head; table = table; text = kept } } ≡ beginning one words s p offset text
whole-begin words s p offset text n left taken table kept t en et e = rw et (rw en at (e s.reports (of-known s n en)))

pub whole-begin-read :
    (words : List ℕ) (s : Shared) (p : Point) (offset size : ℕ) (n : Numbers) (left : LentBegun) (table kept : List ℕ) (t : Shared)
    → n ≡ numbers_of s → t ≡ begun_shared left.reply left.head s
    → ((taken reports : List ℕ) → Known n reports → begun_of n left taken reports table kept ≡ beginning_read one words (shared_of n taken reports) p offset size)
    → record { reply = left.reply; shared = t; point = record { head = left.head; table = table; text = kept } } ≡ beginning_read one words s p offset size
whole-begin-read words s p offset size n left table kept t en et e = rw et (rw en at (e s.taken s.reports (of-known s n en)))
