-- A step of a read (document 02, K1 and K4): it copies a word, or it is the last, which catches up. It stores nothing.
use Rattle.std.specs.Prelude.{ℕ, ◌+◌, ◌*◌, ◌-◌, ◌/◌, max, min, Bool, true, false, ◌&&◌, ◌||◌, List, [], take, ltb}
use Rattle.std.proofs.Math.Option.{none}
use Rattle.std.proofs.lemmas.List.Edits.{sets}
use Rattle.words.specs.Edition.{Edition}
use Rattle.words.specs.Logic.{some_of, up_from, list_from}
use Rattle.words.specs.Memory.{Memory}
use Rattle.block_log.specs.declared.Shared.{Shared}
use Rattle.block_log.specs.Refusals.{refusal}
use Rattle.block_log.specs.Entry.{covers}
use Rattle.block_log.specs.Replay.{Mapped, file_byte}
use Rattle.block_log.specs.CatchUp.{ahead, broken}
use Rattle.points.specs.declared.Phase.TheVariants.{Reading}
use Rattle.points.specs.declared.Write.{Write}
use Rattle.points.specs.declared.Point.{Point}
use Rattle.points.specs.declared.StepAnswer.TheVariants.{Moved, Refused, Copied, Bytes}
use Rattle.points.specs.Record.{no_write, no_text, run_first, run_blocks, range_words, file_at, point_of, writing, caught_up}
use Rattle.points.specs.Search.{reporting_place}
use Rattle.points.specs.Plan.{Outcome, untouched}
use Rattle.points.specs.Calls.{read_from}

-- ---- copying a word

-- the first byte of "the next 8-byte word that the range touches"; its bytes in the range go from `copy_from` to before `copy_to`
abbrev pub copy_at : Write → ℕ
copy_at w = 8 * (w.offset / 8 + w.position)

abbrev pub copy_from : Write → ℕ
copy_from w = max w.offset (copy_at w)

abbrev pub copy_to : Write → ℕ
copy_to w = min (w.offset + w.size) (copy_at w + 8)

-- "as its block is now, 0 in a hole or past the end": byte p of a file; the end is the record's, whatever the block holds there
unfoldable pub shown_byte : Edition → Memory → Mapped → ℕ → ℕ
shown_byte E m f p = elim (ltb p f.size) [ true ↦ file_byte E m f p | false ↦ 0 ]

-- the text with the word copied into it, byte p of the file at place p - offset
unfoldable pub with_word : Edition → Memory → Mapped → Write → List ℕ → List ℕ
with_word E m f w text = sets text (copy_from w - w.offset) (list_from (copy_from w) (copy_to w - copy_from w) (shown_byte E m f))

-- the read with one word more
abbrev pub copied_on : Write → Write
copied_on w =
    record { offset = w.offset; size = w.size; run = w.run; phase = Reading; position = w.position + 1; zeroing = w.zeroing; retries = w.retries }

-- ---- the last step

-- "if entries the final step takes in cover a block of the range"
unfoldable pub covered : Edition → Write → List ℕ → Bool
covered E w entries = some_of (λ v. some_of (covers v) entries) (up_from (run_first E w) (run_blocks E w))

-- "or lengthen the file where the range passed its end": from a length to a later one
abbrev pub lengthened : Write → ℕ → ℕ → Bool
lengthened w before now = ltb before now && ltb before (w.offset + w.size)

-- "it answers Moved and the copy begins again": what a beginning at that moment would leave, which reports where the point stands
unfoldable pub begin_again : Shared → Point → Point → Outcome
begin_again s p c =
    record {
      step = Moved;
      shared = reporting_place c.head s;
      point = read_from c p.head.write.offset p.head.write.size;
      store = none;
      bytes = [];
    }

-- "Otherwise it answers the bytes and the point is idle"; where it stands is reported
unfoldable pub answer_bytes : Shared → Point → Point → Outcome
answer_bytes s p c =
    record {
      step = Bytes p.head.write.size;
      shared = reporting_place c.head s;
      point = point_of (writing c.head no_write) c.table no_text;
      store = none;
      bytes = take p.head.write.size p.text;
    }

-- ---- the step

module _ (E : Edition) (m : Memory) (s : Shared) (p : Point) where
  -- "copies the next 8-byte word .. into the record's text and answers Copied"
  unfoldable pub copy_word : Outcome
  copy_word =
      let h = p.head in
      record {
        step = Copied;
        shared = s;
        point = point_of (writing h (copied_on h.write)) p.table (with_word E m (file_at h p.table) h.write p.text);
        store = none;
        bytes = [];
      }

  -- "Its beginning and a final step catch up"
  unfoldable pub finish : Outcome
  finish =
      let h = p.head in
      let walk = ahead E m s.blocks h.place in
      let c = caught_up E walk p in
      elim (broken E s.blocks walk) [
        | true ↦ untouched s p (Refused (refusal 18))
        | false ↦
            elim (covered E h.write walk.entries || lengthened h.write h.length c.head.length) [
              | true ↦ begin_again s p c
              | false ↦ answer_bytes s p c
            ]
      ]

  -- a step of a read that is not refused copies a word; with no word left it is the last
  unfoldable pub read_on : Outcome
  read_on = elim (ltb p.head.write.position (range_words p.head.write)) [ true ↦ copy_word | false ↦ finish ]
