-- The call that serves a list of points, as the row of calls that it is in a list: "demand 3 counts it as that row, with a cut between any two" (document
-- 02, K6).
use Rattle.std.specs.Prelude.{Ok, Err, ℕ, zero, suc, Bool, true, false, List, [], ◌∷◌, ◌++◌, map, length, eqb}
use Rattle.std.proofs.Math.Option.{Option, some}
use Rattle.words.specs.Edition.{Edition}
use Rattle.block_log.specs.Refusals.{Reply}
use Rattle.points.specs.declared.Point.{Point}
use Rattle.points.specs.Serving.{Request, Last, step_goes_on, serve_rounds, begun as last_begun, stepped as last_stepped}
use Rattle.recovery.specs.World.{World, Call, begin, step, Event, joined, begun, begun_read, stepped, left, world, events}

-- a point of the list: its number, the record that it hands in if it is not joined, and its write
pub record Turn : Type 0 where
  pub number : ℕ
  pub given : Point
  pub request : Request

abbrev pub begin_of : Turn → Call
begin_of t = begin t.number t.given t.request.offset t.request.text

abbrev pub step_of : Turn → Call
step_of t = step t.number t.given

-- "one refused at its beginning or a step gets no further step"
abbrev pub reply_goes_on : Reply → Bool
reply_goes_on (Ok x) = true
reply_goes_on (Err e) = false

abbrev pub goes_on : Event → Bool
goes_on (joined n r) = false
goes_on (begun n offset text r) = reply_goes_on r
goes_on (begun_read n offset size r) = false
goes_on (stepped n h a bytes) = step_goes_on a
goes_on (left n r) = false

-- those that are unfinished after a call each, by what these calls did
unfoldable pub unfinished : List Turn → List Event → List Turn
unfinished [] es = []
unfinished (t ∷ ts) [] = []
unfinished (t ∷ ts) (e ∷ es) = elim (goes_on e) [ true ↦ t ∷ unfinished ts es | false ↦ unfinished ts es ]

module _ (E : Edition) where
  -- "gives each unfinished one a step a round": the calls of so many rounds
  unfoldable pub round_calls : ℕ → World → List Turn → List Call
  round_calls zero w ts = []
  round_calls (suc k) w ts = let cs = map step_of ts in cs ++ round_calls k (world E w cs) (unfinished ts (events E w cs))

  -- and who is unfinished after them
  unfoldable pub after_rounds : ℕ → World → List Turn → List Turn
  after_rounds zero w ts = ts
  after_rounds (suc k) w ts = let cs = map step_of ts in after_rounds k (world E w cs) (unfinished ts (events E w cs))

  module _ (w : World) (ts : List Turn) where
    -- "It begins all writes in list order": the world then, and whose writes are begun
    abbrev pub begun_world : World
    begun_world = world E w (map begin_of ts)

    abbrev pub begun_turns : List Turn
    begun_turns = unfinished ts (events E w (map begin_of ts))

    -- the row
    unfoldable pub row_calls : List Call
    row_calls = map begin_of ts ++ round_calls (serve_rounds E (length ts)) begun_world begun_turns

-- ---- what it answers

-- "what its last beginning or step answered", of point p, after an event; after these events, where it was `before` at first
abbrev pub answers : ℕ → Option Last → Event → Option Last
answers p before (joined n r) = before
answers p before (begun n offset text r) = elim (eqb n p) [ true ↦ some (last_begun r) | false ↦ before ]
answers p before (begun_read n offset size r) = elim (eqb n p) [ true ↦ some (last_begun r) | false ↦ before ]
answers p before (stepped n h a bytes) = elim (eqb n p) [ true ↦ some (last_stepped a) | false ↦ before ]
answers p before (left n r) = before

unfoldable pub last_answer : ℕ → Option Last → List Event → Option Last
last_answer p before [] = before
last_answer p before (e ∷ es) = last_answer p (answers p before e) es
