-- What the calls answer and leave, in numbers. Each is document 01's, but for a record whose numbers are no record's: it does not fit.
use Rattle.std.specs.Prelude.{ℕ, ◌≡◌, true, false, List, [], ◌∷◌, length}
use Rattle.words.specs.Edition.{one}
use Rattle.words.specs.Logic.{first, ◌when◌}
use Rattle.words.specs.Memory.{after}
use Rattle.block_log.specs.declared.Shared.{Shared}
use Rattle.block_log.specs.Refusals.{Reply, refusal}
use Rattle.block_log.specs.Opening.{number_of, opened, scratch_after}
use Rattle.points.specs.declared.Point.{Point}
use Rattle.points.specs.declared.StepAnswer.TheVariants.{Refused}
use Rattle.points.specs.Record.{bad_shared}
use Rattle.points.specs.Calls.{joining, beginning, beginning_read, leaving}
use Rattle.points.specs.Plan.{stored_at}
use Rattle.points.specs.Stepping.{stepping, bytes_after}
use Rattle.points.specs.Reading.{reading, buffer_after, locating}
use Rattle.c_lent.specs.declared.Opened.{Opened}
use Rattle.c_lent.specs.declared.Answer.{Answer}
use Rattle.c_lent.specs.declared.Count.{Count}
use Rattle.c_lent.specs.Numbers.{opened_numbers, answer_numbers, count_numbers, head_from, is_known, shared_from}
use Rattle.c_lent.specs.Numbers.{SharedLent, PointLent, shared_in, point_in, lend_shared, lend_point}

-- ---- opening and listing

-- opening's answer, and the scratch as opening leaves it
pub record OpensFor (words scratch : List ℕ) (answer : Opened) (scratch' : List ℕ) : Type 0 where
  pub answers : answer ≡ opened_numbers (opened one words scratch)
  pub marks : scratch' ≡ scratch_after one words scratch

-- the shared record that opening makes
abbrev pub shared_for : List ℕ → List ℕ → SharedLent
shared_for words scratch = lend_shared (opened one words scratch).shared

-- ---- what calls leave

-- the refusal's number, and both records
pub record PointLeft : Type 0 where
  pub refused : ℕ
  pub shared : SharedLent
  pub point : PointLent

abbrev pub left : ℕ → SharedLent → PointLent → PointLeft
left n s p = record { refused = n; shared = s; point = p }

abbrev pub point_left : Reply → Shared → Point → PointLeft
point_left reply s p = left (number_of reply) (lend_shared s) (lend_point p)

-- a step's answer, the image, both records and the lent bytes
pub record StepLeft : Type 0 where
  pub answer : Answer
  pub image : List ℕ
  pub shared : SharedLent
  pub point : PointLent
  pub bytes : List ℕ

abbrev pub step_left : Answer → List ℕ → SharedLent → PointLent → List ℕ → StepLeft
step_left a words s p bytes = record { answer = a; image = words; shared = s; point = p; bytes = bytes }

-- the refusal's number, and the shared record
pub record SharedLeft : Type 0 where
  pub refused : ℕ
  pub shared : SharedLent

abbrev pub shared_left : ℕ → SharedLent → SharedLeft
shared_left n s = record { refused = n; shared = s }

-- the count that reading answers, and the buffer
pub record ReadLeft : Type 0 where
  pub answer : Count
  pub buffer : List ℕ

abbrev pub read_left : Count → List ℕ → ReadLeft
read_left c bytes = record { answer = c; buffer = bytes }

-- ---- joining, which is handed no record

abbrev pub join_for : List ℕ → SharedLent → ℕ → PointLeft
join_for words s number =
    let j = joining one words (shared_in s) number in
    point_left j.reply j.shared j.point

-- ---- the calls with a record

-- why a call is refused whose record's numbers are none: 11, and 10 before it
abbrev pub unknown : List ℕ → List ℕ → List ℕ → ℕ
unknown words shared taken = first (10 when bad_shared one words (shared_from shared taken) ∷ 11 when true ∷ [])

-- what a refused reading or locating answers
abbrev pub no_count : ℕ → Count
no_count n = record { refused = n; count = 0 }

module _ (words : List ℕ) (s : SharedLent) (p : PointLent) where
  -- the first where the numbers are a record's; else the second, given the refusal's number
  unfoldable pub if_known : {X : Type 0} → X → (ℕ → X) → X
  if_known served refused = elim (is_known p.head) [ true ↦ served | false ↦ refused (unknown words s.numbers s.taken) ]

  abbrev pub begin_for : ℕ → List ℕ → PointLeft
  begin_for offset bytes =
      let b = beginning one words (shared_in s) (point_in p) offset bytes in
      if_known (point_left b.reply b.shared b.point) (λ n. left n s p)

  abbrev pub begin_read_for : ℕ → ℕ → PointLeft
  begin_read_for offset size =
      let b = beginning_read one words (shared_in s) (point_in p) offset size in
      if_known (point_left b.reply b.shared b.point) (λ n. left n s p)

  -- of the bytes lent to a step those that a read answers come first, and the others are as they were
  abbrev pub step_for : List ℕ → StepLeft
  step_for lent =
      let o = stepping one words (shared_in s) (point_in p) in
      let answer = answer_numbers o.step (stored_at one o.store) in
      if_known (step_left answer (after one words o.store) (lend_shared o.shared) (lend_point o.point) (bytes_after o.bytes lent))
      (λ n. step_left (answer_numbers (Refused (refusal n)) 0) words s p lent)

  abbrev pub leave_for : SharedLeft
  leave_for =
      let l = leaving one words (shared_in s) (point_in p) in
      if_known (shared_left (number_of l.reply) (lend_shared l.shared)) (λ n. shared_left n s)

  abbrev pub read_for : ℕ → List ℕ → ReadLeft
  read_for offset buffer =
      let h = head_from p.head in
      let count = count_numbers (reading one words (shared_in s) h p.table offset (length buffer)) in
      if_known (read_left count (buffer_after one words (shared_in s) h p.table offset buffer)) (λ n. read_left (no_count n) buffer)

  abbrev pub locate_for : ℕ → Count
  locate_for block = if_known (count_numbers (locating one words (shared_in s) (head_from p.head) p.table block)) no_count
