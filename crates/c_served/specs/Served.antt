-- The calls for C are the calls of the list: what a call leaves, its numbers read back, is what `serve` says of it; opening makes the world that a list
-- begins with; reading and locating show the book's file (recovery/specs/Served). Asked of numbers that are a record's (`is_known`); and what a call leaves
-- are such numbers, so that the next call may be handed them. With other numbers a call is refused and changes nothing (c_lent): it is none of the list's.
-- The call that serves a list of points is a row of the list's calls.
use Rattle.std.specs.Prelude.{ℕ, zero, suc, ◌≡◌, Bool, true, ◌≢◌, List, [], ◌∷◌, map, length, get_or, set, take, drop}
use Rattle.words.specs.Edition.{one}
use Rattle.words.specs.Logic.{between, all_of, list_from}
use Rattle.block_log.specs.Refusals.{refusal}
use Rattle.block_log.specs.Opening.{reply_of, number_of, open_refusal}
use Rattle.points.specs.declared.StepAnswer.{StepAnswer}
use Rattle.points.specs.declared.StepAnswer.TheVariants.{Stored, Moved, Extending, Committed, Refused, Copied, Bytes}
use Rattle.points.specs.declared.Joined.{Joined}
use Rattle.points.specs.declared.Begun.{Begun}
use Rattle.points.specs.declared.Stepped.{Stepped}
use Rattle.points.specs.declared.Left.{Left}
use Rattle.points.specs.declared.Point.{Point}
use Rattle.points.specs.declared.Count as counted
use Rattle.points.specs.Record.{point_of}
use Rattle.points.specs.Serving.{Common, Request, Last, last_kind, last_value, Service}
use Rattle.recovery.specs.World.{start}
use Rattle.recovery.specs.History.{open_world}
use Rattle.recovery.specs.Served.{JoinServed, BeginServed, BeginReadServed, StepServed, LeaveServed, ReadServed, LocateServed, ServeServed}
use Rattle.c_lent.specs.declared.Count.{Count}
use Rattle.c_lent.specs.Numbers.{SharedLent, PointLent, shared_in, point_in, head_from, is_known}
use Rattle.c_lent.specs.Calls.{PointLeft, StepLeft, SharedLeft, ReadLeft}
use Rattle.c_lent.specs.Serving.{CommonLent, point_as, offset_at, size_at, start_at, Lent, ServeLeft, serve_left}

-- ---- answers, read back from their numbers

-- which answer of a step this is, by its number; a number that is none's reads as a refusal, and is not answered (`is_answer`)
abbrev pub is_answer : ℕ → Bool
is_answer kind = between 1 kind 7

abbrev pub answer_of : ℕ → ℕ → StepAnswer
answer_of zero value = Refused (refusal value)
answer_of (suc zero) value = Stored
answer_of (suc (suc zero)) value = Moved
answer_of (suc (suc (suc zero))) value = Extending
answer_of (suc (suc (suc (suc zero)))) value = Committed value
answer_of (suc (suc (suc (suc (suc zero))))) value = Refused (refusal value)
answer_of (suc (suc (suc (suc (suc (suc zero)))))) value = Copied
answer_of (suc (suc (suc (suc (suc (suc (suc zero))))))) value = Bytes value
answer_of (suc (suc (suc (suc (suc (suc (suc (suc n)))))))) value = Refused (refusal value)

abbrev pub joined_from : PointLeft → Joined
joined_from l = record { reply = reply_of l.refused; shared = shared_in l.shared; point = point_in l.point }

abbrev pub begun_from : PointLeft → Begun
begun_from l = record { reply = reply_of l.refused; shared = shared_in l.shared; point = point_in l.point }

abbrev pub stepped_from : StepLeft → Stepped
stepped_from l = record { step = answer_of l.answer.kind l.answer.value; shared = shared_in l.shared; point = point_in l.point }

abbrev pub left_from : SharedLeft → Left
left_from l = record { reply = reply_of l.refused; shared = shared_in l.shared }

abbrev pub count_from : Count → counted.Count
count_from c = record { reply = reply_of c.refused; count = c.count }

-- no word of the image changes but the one that a step tells, and none at all where it tells 0
pub record TellsStore (words image : List ℕ) (word : ℕ) : Type 0 where
  pub only : image ≡ set words word (get_or image word 0)
  pub none : word ≡ 0 → image ≡ words

-- ---- the calls

-- the shared record that opening makes
unfoldable pub OpenServedFor : List ℕ → List ℕ → ℕ → SharedLent → Type 0
OpenServedFor words scratch refused s =
    (refused ≡ 0 → open_refusal one words scratch ≡ 0) × (open_world one words scratch ≡ start words (shared_in s))

module _ (words : List ℕ) (s : SharedLent) where
  unfoldable pub JoinServedFor : ℕ → PointLeft → Type 0
  JoinServedFor number l = (is_known l.point.head ≡ true) × JoinServed one words (shared_in s) number (joined_from l)

  module _ (p : PointLent) where
    unfoldable pub BeginServedFor : ℕ → List ℕ → PointLeft → Type 0
    BeginServedFor offset bytes l =
        is_known p.head ≡ true → (is_known l.point.head ≡ true) × BeginServed one words (shared_in s) (point_in p) offset bytes (begun_from l)

    unfoldable pub BeginReadServedFor : ℕ → ℕ → PointLeft → Type 0
    BeginReadServedFor offset size l =
        is_known p.head ≡ true → (is_known l.point.head ≡ true) × BeginReadServed one words (shared_in s) (point_in p) offset size (begun_from l)

    -- with the bytes that were lent
    unfoldable pub StepServedFor : List ℕ → StepLeft → Type 0
    StepServedFor lent l =
        is_known p.head ≡ true
        → (is_known l.point.head ≡ true) × (is_answer l.answer.kind ≡ true) × TellsStore words l.image l.answer.word
        × StepServed one words (shared_in s) (point_in p) lent (stepped_from l) l.image l.bytes

    -- leaving, reading and locating are lent no text: the record's may be any
    unfoldable pub LeaveServedFor : SharedLeft → Type 0
    LeaveServedFor l =
        is_known p.head ≡ true → (text : List ℕ) → LeaveServed one words (shared_in s) (point_of (head_from p.head) p.table text) (left_from l)

    unfoldable pub ReadServedFor : ℕ → List ℕ → ReadLeft → Type 0
    ReadServedFor offset buffer l =
        is_known p.head ≡ true
        → ReadServed one words (shared_in s) (head_from p.head) p.table offset buffer (count_from l.answer) l.buffer

    unfoldable pub LocateServedFor : ℕ → Count → Type 0
    LocateServedFor block c =
        is_known p.head ≡ true → LocateServed one words (shared_in s) (head_from p.head) p.table block (count_from c)

-- ---- the call that serves a list of points (document 02, K6)

-- the records of these heads, tables and texts
abbrev pub point_at : List (List ℕ) → List (List ℕ) → List (List ℕ) → ℕ → Point
point_at heads tables texts i = point_in (point_as (get_or heads i []) (get_or tables i []) (get_or texts i []))

abbrev pub points_in : List (List ℕ) → List (List ℕ) → List (List ℕ) → List Point
points_in heads tables texts = list_from 0 (length heads) (point_at heads tables texts)

-- the writes of these offsets and sizes, their texts one after the other
abbrev pub request_at : List (List ℕ) → List ℕ → ℕ → Request
request_at writes bytes i = record { offset = offset_at writes i; text = take (size_at writes i) (drop (start_at writes i) bytes) }

abbrev pub requests_in : List (List ℕ) → List ℕ → List Request
requests_in writes bytes = list_from 0 (length writes) (request_at writes bytes)

-- what a point's last beginning or step answered, in numbers: kind and value
abbrev pub last_numbers : Last → List ℕ
last_numbers a = last_kind a ∷ last_value a ∷ []

abbrev pub common_in : CommonLent → Common
common_in c = record { words = c.image; shared = shared_in c.shared }

-- what the call leaves, with these as the points' last answers
abbrev pub service_from : ServeLeft → List Last → Service
service_from l lasts =
    record { reply = reply_of l.refused; common = common_in l.common; points = points_in l.heads l.tables l.texts; lasts = lasts }

module _ (c : CommonLent) (heads tables texts : List (List ℕ)) where
  -- the reply's number is told, and the lent list has the numbers of these answers. (Those are not read back: a refused beginning's are a refused step's)
  pub record ServeServedAs (writes : List (List ℕ)) (bytes : List ℕ) (l : ServeLeft) : Type 0 where
    pub lasts : List Last
    pub known : all_of is_known l.heads ≡ true
    pub told : number_of (reply_of l.refused) ≡ l.refused
    pub answers : l.refused ≡ 0 → l.answers ≡ map last_numbers lasts
    pub served : ServeServed one c.image (shared_in c.shared) (points_in heads tables texts) (requests_in writes bytes) (service_from l lasts)

  -- where a table, a text, an answer and a write are lent for each head, and the texts are as long as the sizes together, it is served as the row in a list
  -- is; elsewhere it is refused by 26; and refused it changes nothing
  unfoldable pub ServeServedFor : List (List ℕ) → List (List ℕ) → List ℕ → ServeLeft → Type 0
  ServeServedFor answers writes bytes l =
      (Lent heads tables texts answers writes bytes → all_of is_known heads ≡ true → ServeServedAs writes bytes l)
      × ((Lent heads tables texts answers writes bytes → ⊥) → l.refused ≡ 26)
      × (l.refused ≢ 0 → l ≡ serve_left l.refused c heads tables texts answers)
