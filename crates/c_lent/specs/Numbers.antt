-- Answers and records in numbers, as C has them.
use Rattle.std.specs.Prelude.{ℕ, Bool, ◌&&◌, List, [], ◌∷◌, get_or, drop, leb}
use Rattle.block_log.specs.declared.Shared.{Shared}
use Rattle.block_log.specs.declared.Opened as log
use Rattle.block_log.specs.Opening.{number_of}
use Rattle.points.specs.declared.StepAnswer.{StepAnswer}
use Rattle.points.specs.declared.Head.{Head}
use Rattle.points.specs.declared.Numbers.{Numbers}
use Rattle.points.specs.declared.Point.{Point}
use Rattle.points.specs.declared.Count as counted
use Rattle.points.specs.Record.{phase_number, phase_of, no_text, point_of, all_below}
use Rattle.points.specs.Stepping.{step_kind, step_value}
use Rattle.points.specs.Search.{shared_of}
use Rattle.c_lent.specs.declared.Opened.{Opened}
use Rattle.c_lent.specs.declared.Answer.{Answer}
use Rattle.c_lent.specs.declared.Count.{Count}

-- a step's answer, and which word of the image was stored, 0 for none
abbrev pub answer_numbers : StepAnswer → ℕ → Answer
answer_numbers step word = record { kind = step_kind step; value = step_value step; word = word }

abbrev pub opened_numbers : log.Opened → Opened
opened_numbers o = record { refused = number_of o.reply; length = o.length; entries = o.entries; free = o.free }

abbrev pub count_numbers : counted.Count → Count
count_numbers c = record { refused = number_of c.reply; count = c.count }

-- a head's numbers, in the order of C's record
abbrev pub head_numbers : Head → List ℕ
head_numbers h =
    h.number ∷ h.length ∷ h.place.block ∷ h.place.slot ∷ h.write.offset ∷ h.write.size ∷ h.write.run
    ∷ phase_number h.write.phase ∷ h.write.position ∷ h.write.zeroing ∷ h.write.retries ∷ []

abbrev pub head_from : List ℕ → Head
head_from xs =
    record {
      number = get_or xs 0 0;
      length = get_or xs 1 0;
      place = record { block = get_or xs 2 0; slot = get_or xs 3 0 };
      write =
          record {
            offset = get_or xs 4 0;
            size = get_or xs 5 0;
            run = get_or xs 6 0;
            phase = phase_of (get_or xs 7 0);
            position = get_or xs 8 0;
            zeroing = get_or xs 9 0;
            retries = get_or xs 10 0;
          };
    }

-- whether numbers are those of a head: the phase is one of seven, and the retry count is at most 65,535
abbrev pub is_known : List ℕ → Bool
is_known xs = leb (get_or xs 7 0) 6 && leb (get_or xs 10 0) 65535

-- the shared record's numbers, beside its map: the reports come last
abbrev pub shared_numbers : Shared → List ℕ
shared_numbers s = s.blocks ∷ s.joined ∷ s.chain ∷ s.reports

abbrev pub reports_from : List ℕ → List ℕ
reports_from xs = drop 3 xs

abbrev pub lead_from : List ℕ → Numbers
lead_from xs =
    record { blocks = get_or xs 0 0; joined = get_or xs 1 0; chain = get_or xs 2 0; inside = all_below (get_or xs 0 0) (reports_from xs) }

abbrev pub shared_from : List ℕ → List ℕ → Shared
shared_from xs taken = shared_of (lead_from xs) taken (reports_from xs)

-- ---- records as they are lent

-- the shared record: its numbers, and its map
pub record SharedLent : Type 0 where
  pub numbers : List ℕ
  pub taken : List ℕ

-- a point's record: its eleven numbers, its table and its text
pub record PointLent : Type 0 where
  pub head : List ℕ
  pub table : List ℕ
  pub text : List ℕ

abbrev pub shared_as : List ℕ → List ℕ → SharedLent
shared_as numbers taken = record { numbers = numbers; taken = taken }

-- what a call's references hold
abbrev pub shared_lent : List ℕ → List ℕ → SharedLent
shared_lent shared taken = shared_as shared taken

abbrev pub point_lent : List ℕ → List ℕ → List ℕ → PointLent
point_lent head table text = record { head = head; table = table; text = text }

-- leaving, reading and locating do not look at the text
abbrev pub textless : List ℕ → List ℕ → PointLent
textless head table = record { head = head; table = table; text = no_text }

-- the records that are lent
abbrev pub shared_in : SharedLent → Shared
shared_in s = shared_from s.numbers s.taken

abbrev pub point_in : PointLent → Point
point_in p = point_of (head_from p.head) p.table p.text

-- how a record is left
abbrev pub lend_shared : Shared → SharedLent
lend_shared s = record { numbers = shared_numbers s; taken = s.taken }

abbrev pub lend_point : Point → PointLent
lend_point p = record { head = head_numbers p.head; table = p.table; text = p.text }
