-- For the contracts of the code that serves a list of points in batches: parts of contracts, nothing here is promised. `Serving` has what is.
use Rattle.std.specs.Prelude.{ℕ, zero, suc, ◌+◌, ◌*◌, ◌/◌, ◌%◌, ◌≤◌, ◌<◌, ◌≡◌, ◌≢◌, ◌⊎◌, true, false, List, [], length, get_or}
use Rattle.std.specs.Prelude.{Option, Some, None}
use Rattle.std.proofs.Math.Option.{none, some}
use Rattle.words.specs.Edition.{Edition, one, block_bytes, blocks_max}
use Rattle.words.specs.Logic.{list_from}
use Rattle.words.specs.Word.{from_bytes}
use Rattle.words.specs.Memory.{Memory, Store, memory, word_at, put, after}
use Rattle.block_log.specs.declared.Shared.{Shared}
use Rattle.block_log.specs.declared.Place.{Place}
use Rattle.block_log.specs.Entry.{entry_v, entry_n, legal}
use Rattle.points.specs.declared.Phase.TheVariants.{Filling}
use Rattle.points.specs.declared.Write.{Write}
use Rattle.points.specs.declared.Head.{Head}
use Rattle.points.specs.declared.Point.{Point}
use Rattle.points.specs.declared.StepAnswer.TheVariants.{Moved, Committed}
use Rattle.points.specs.declared.serve.Row.{Row}
use Rattle.points.specs.declared.serve.Due.{Due}
use Rattle.points.specs.Record.{run_first, run_blocks, run_words, standing, writing, with_head, point_of}
use Rattle.points.specs.Search.{with_taken, reporting_place}
use Rattle.points.specs.Fill.{new_word}
use Rattle.points.specs.Plan.{Outcome, word_from}
use Rattle.points.specs.Stepping.{turned, refill, next_slot, entry_for, step_refusal, stepping}
use Rattle.points.specs.Lent.{TextFits, mixed_byte}

-- ---- words of a run

-- the image with word k of the run filled, as the image is now
abbrev pub filled_at : Edition → Head → List ℕ → List ℕ → ℕ → List ℕ → List ℕ
filled_at E h table text k words = after E words (some (word_from E h.write.run k (new_word E (memory E words) h table text k)))

-- m words from word k on, one after the other: each is found in the image as it is then
unfoldable pub filled_on : Edition → Head → List ℕ → List ℕ → ℕ → ℕ → List ℕ → List ℕ
filled_on E h table text k zero words = words
filled_on E h table text k (suc m) words = filled_on E h table text (suc k) m (filled_at E h table text k words)

-- ---- what the words of one block of a run need

-- the run's first block; the block mapped where word k goes, 0 for none; the bytes of the run that are the text's, from `lead` to `end`
abbrev pub row_of : Edition → Head → List ℕ → ℕ → Row
row_of E h table k =
    let w = h.write in
    let lead = w.offset % block_bytes E in
    record { run = w.run; from = get_or table (run_first E w + k / E.block_words) 0; lead = lead; end = lead + w.size }

-- word k is one of a run whose write fits
abbrev pub Fillable : Head → ℕ → Type 0
Fillable h k = TextFits h.write × (k < run_words one h.write)

-- a row is that of this record, for word k of its run
abbrev pub Prepared : Row → Head → List ℕ → ℕ → Type 0
Prepared r h table k = (r ≡ row_of one h table k) × Fillable h k

-- no more than a text's bytes are the text's, and word k is one of a run's most
abbrev pub InRow : Row → ℕ → Type 0
InRow r k = (r.end ≤ r.lead + 1024) × (k < 192)

-- m words from word k on lie in one block of the run
abbrev pub InOneBlock : Head → ℕ → ℕ → Type 0
InOneBlock h k m = TextFits h.write × (k % one.block_words + m ≤ one.block_words) × (k + m ≤ run_words one h.write)

-- ---- rounds by rows

-- word i of a block, 0 for block 0
unfoldable pub copied_word : List ℕ → ℕ → ℕ → ℕ
copied_word words zero i = 0
copied_word words (suc b) i = word_at (memory one words) (suc b) i

-- word k of a run from the word copied there, and from the image
unfoldable pub mixed_word : ℕ → Row → List ℕ → ℕ → ℕ
mixed_word copied row text k = from_bytes (list_from (8 * k) 8 (mixed_byte copied text row.lead row.end (8 * k)))

abbrev pub row_word : List ℕ → Row → List ℕ → ℕ → ℕ
row_word words row text k = mixed_word (copied_word words row.from (k % one.block_words)) row text k

-- the image with it stored
abbrev pub row_put : Row → List ℕ → ℕ → List ℕ → List ℕ
row_put row text k words = put one words (record { block = row.run; word = k; value = row_word words row text k })

-- word r after the next one is stored, where the row stores
unfoldable pub row_stored : ℕ → Option Due → List ℕ → List ℕ → List ℕ
row_stored r None text words = words
row_stored r (Some d) text words = row_put d.row text (d.next + r) words

-- by the first i rows in round r; by the first n in each of the first r rounds
unfoldable pub round_stored : ℕ → ℕ → List (Option Due) → List (List ℕ) → List ℕ → List ℕ
round_stored r zero rows texts words = words
round_stored r (suc i) rows texts words = row_stored r (get_or rows i None) (get_or texts i []) (round_stored r i rows texts words)

unfoldable pub rounds_stored : ℕ → ℕ → List (Option Due) → List (List ℕ) → List ℕ → List ℕ
rounds_stored zero n rows texts words = words
rounds_stored (suc r) n rows texts words = round_stored r n rows texts (rounds_stored r n rows texts words)

-- word k may be stored by a row in an image of so many words; so may m words from word k on; where the row stores; by each row, of which each text has one
abbrev pub RowIn : ℕ → Row → ℕ → Type 0
RowIn size r k = InRow r k × (64 * r.run ≤ size) × (64 * r.from + 64 ≤ size)

abbrev pub RowHolds : ℕ → Due → ℕ → Type 0
RowHolds size d m = (d.row.end ≤ d.row.lead + 1024) × (d.next + m ≤ 192) × (64 * d.row.run ≤ size) × (64 * d.row.from + 64 ≤ size)

abbrev pub RowFits : ℕ → ℕ → Option Due → Type 0
RowFits size m row = (d : Due) → row ≡ Some d → RowHolds size d m

abbrev pub RowsFit : ℕ → ℕ → List (Option Due) → List (List ℕ) → Type 0
RowsFit size m rows texts = (length texts ≤ length rows) × ((i : ℕ) → i < length texts → RowFits size m (get_or rows i None))

-- ---- moving on by one entry

-- no word is left to fill
pub record Filled (E : Edition) (w : Write) : Type 0 where
  pub filling : w.phase ≡ Filling
  pub filled : w.position ≡ run_words E w

-- one word stands at this place, an empty slot after it
pub record Alone (E : Edition) (m : Memory) (p : Place) (e : ℕ) : Type 0 where
  pub slot : suc p.slot < E.block_words
  pub some : e ≢ 0
  pub word : e ≡ word_at m p.block p.slot
  pub after : word_at m p.block (suc p.slot) ≡ 0

-- a legal entry maps none of the write's blocks
pub record Aside (E : Edition) (blocks : ℕ) (w : Write) (e : ℕ) : Type 0 where
  pub few : blocks ≤ blocks_max
  pub legal : legal E blocks e ≡ true
  pub apart : (entry_v e + entry_n e ≤ run_first E w) ⊎ (run_first E w + run_blocks E w ≤ entry_v e)

-- no word is left to fill, and one legal entry is ahead that maps none of the write's blocks
pub record Passes (E : Edition) (m : Memory) (blocks : ℕ) (h : Head) (e : ℕ) : Type 0 where
  pub ready : Filled E h.write
  pub alone : Alone E m h.place e
  pub aside : Aside E blocks h.write e

-- the head one slot on, with the length that it has then
abbrev pub passing : Edition → Head → ℕ → Head
passing E h length = standing h length (next_slot h.place) (refill false false E h.write)

-- what such a step leaves
abbrev pub passed_by : Shared → Head → List ℕ → List ℕ → Outcome
passed_by s h table text = record { step = Moved; shared = reporting_place h s; point = point_of h table text; store = none; bytes = [] }

-- where it is done it is the step of every record that this one is with a text, for every shared record with this block count under which that is not
-- refused; otherwise nothing changes
pub record MovesByOne (words : List ℕ) (blocks : ℕ) (h : Head) (table : List ℕ) (r : Option Head) (left : List ℕ) : Type 0 where
  pub moved :
      (g : Head) → r ≡ Some g → (s : Shared) (text : List ℕ) → s.blocks ≡ blocks → step_refusal one words s h table ≡ 0
      → stepping one words s (point_of h table text) ≡ passed_by s g left text
  pub stayed : r ≡ None → left ≡ table

-- ---- committing by the head

-- the entry of a write fits its fields, and may be taken in
pub record Enterable (h : Head) : Type 0 where
  pub text : TextFits h.write
  pub run_some : 1 ≤ h.write.run
  pub run_inside : h.write.run + run_blocks one h.write ≤ blocks_max
  pub number : h.number < 32

-- no word is left to fill, and the slot at the log place is empty
pub record Commits (m : Memory) (h : Head) : Type 0 where
  pub ready : Filled one h.write
  pub slot : h.place.slot < one.block_words
  pub empty : word_at m h.place.block h.place.slot ≡ 0
  pub entry : Enterable h

-- the entry, where it is stored; and what such a step leaves
abbrev pub entry_store : Edition → Head → Store
entry_store E h = record { block = h.place.block; word = h.place.slot; value = entry_for E h }

abbrev pub committed_by : Edition → Shared → Head → List ℕ → Head → List ℕ → List ℕ → Outcome
committed_by E s h taken left table text =
    record { step = Committed h.write.retries; shared = with_taken s taken; point = point_of left table text; store = some (entry_store E h); bytes = [] }

-- where it is done it is the step of this record, for every shared record with this map under which that is not refused; otherwise nothing changes
pub record CommitsByHead (words taken : List ℕ) (h : Head) (table text : List ℕ) (r : Option Head) (words' taken' table' text' : List ℕ) : Type 0 where
  pub committed :
      (g : Head) → r ≡ Some g → (s : Shared) → s.taken ≡ taken → step_refusal one words s h table ≡ 0
      → stepping one words s (point_of h table text) ≡ committed_by one s h taken' g table' text'
  pub stored : (g : Head) → r ≡ Some g → words' ≡ after one words (some (entry_store one h))
  pub stayed : r ≡ None → (words' ≡ words) × (taken' ≡ taken) × (table' ≡ table) × (text' ≡ text)

-- the point r words on
abbrev pub moved_on : ℕ → Point → Point
moved_on r p = let w = p.head.write in with_head p (writing p.head (turned w w.phase (r + w.position) w.zeroing w.retries))
