-- Serving a list of points: "It begins all writes in list order, then gives each unfinished one a step a round" (document 02, K6).
use Rattle.std.specs.Prelude.{Ok, Err, ℕ, zero, suc, ◌+◌, ◌*◌, ◌-◌, Bool, true, false, ◌||◌, not, List, [], ◌∷◌, length, eqb}
use Rattle.words.specs.Edition.{Edition}
use Rattle.words.specs.Logic.{between, member, first, ◌when◌}
use Rattle.words.specs.Memory.{after}
use Rattle.block_log.specs.declared.Shared.{Shared}
use Rattle.block_log.specs.Refusals.{Reply, Done, Refused as Stopped}
use Rattle.points.specs.declared.Point.{Point}
use Rattle.points.specs.declared.StepAnswer.{StepAnswer}
use Rattle.points.specs.declared.StepAnswer.TheVariants.{Stored, Moved, Extending, Committed, Refused, Copied, Bytes}
use Rattle.points.specs.Record.{run_most}
use Rattle.points.specs.Calls.{beginning}
use Rattle.points.specs.Stepping.{stepping, step_kind, step_value}

-- ---- turns, whoever has them

-- what a turn leaves: what all share, and what only the one has whose turn it was; of several turns, that of each
pub record Turned (S X : Type 0) : Type 0 where
  pub common : S
  pub own : X

-- each of a list has its turn, in list order
module _ {S A B : Type 0} where
  unfoldable pub in_turn : (S → A → Turned S B) → S → List A → Turned S (List B)
  in_turn turn s [] = record { common = s; own = [] }
  in_turn turn s (x ∷ xs) =
      let t = turn s x in
      let r = in_turn turn t.common xs in
      record { common = r.common; own = t.own ∷ r.own }

-- so many rounds, in each of which each has its turn
module _ {S A : Type 0} where
  unfoldable pub rounds : ℕ → (S → A → Turned S A) → S → List A → Turned S (List A)
  rounds zero turn s xs = record { common = s; own = xs }
  rounds (suc k) turn s xs = let r = in_turn turn s xs in rounds k turn r.common r.own

-- first one kind of turn for all, then rounds of another
module _ {S A B : Type 0} where
  unfoldable pub row : (S → A → Turned S B) → (S → B → Turned S B) → ℕ → S → List A → Turned S (List B)
  row begin step k s xs = let r = in_turn begin s xs in rounds k step r.common r.own

-- ---- the points of the call

-- "one write for each"
pub record Request : Type 0 where
  pub offset : ℕ
  pub text : List ℕ

-- a point's record, and its write
pub record Asking : Type 0 where
  pub point : Point
  pub request : Request

abbrev pub asking : List Point → List Request → List Asking
asking (p ∷ ps) (q ∷ qs) = record { point = p; request = q } ∷ asking ps qs
asking [] qs = []
asking (p ∷ ps) [] = []

-- "what its last beginning or step answered"
pub data Last : Type 0 where
  begun : Reply → Last
  stepped : StepAnswer → Last

-- the same in numbers, those of a step's answer; 0 for a beginning that was done, which is no point's last in the end
abbrev pub last_kind : Last → ℕ
last_kind (begun (Ok x)) = 0
last_kind (begun (Err e)) = step_kind (Refused e)
last_kind (stepped a) = step_kind a

abbrev pub last_value : Last → ℕ
last_value (begun (Ok x)) = 0
last_value (begun (Err e)) = step_value (Refused e)
last_value (stepped a) = step_value a

-- a step after which the write goes on
abbrev pub step_goes_on : StepAnswer → Bool
step_goes_on Stored = true
step_goes_on Moved = true
step_goes_on Extending = true
step_goes_on (Committed retries) = false
step_goes_on (Refused e) = false
step_goes_on Copied = true
step_goes_on (Bytes n) = false

-- "each unfinished one"; "one refused at its beginning or a step gets no further step"
abbrev pub is_unfinished : Last → Bool
is_unfinished (begun (Ok x)) = true
is_unfinished (begun (Err e)) = false
is_unfinished (stepped a) = step_goes_on a

-- a point of the list, from its beginning on
pub record Listed : Type 0 where
  pub point : Point
  pub last : Last

-- what the points share: the image and the shared record
pub record Common : Type 0 where
  pub words : List ℕ
  pub shared : Shared

-- ---- their turns

-- a beginning
unfoldable pub begin_turn : Edition → Common → Asking → Turned Common Listed
begin_turn E c a =
    let b = beginning E c.words c.shared a.point a.request.offset a.request.text in
    record {
      common = record { words = c.words; shared = b.shared };
      own = record { point = b.point; last = begun b.reply };
    }

-- a step of one that is unfinished, its store made; nothing of another
unfoldable pub step_turn : Edition → Common → Listed → Turned Common Listed
step_turn E c x =
    let o = stepping E c.words c.shared x.point in
    elim (is_unfinished x.last) [
      | true ↦
          record {
            common = record { words = after E c.words o.store; shared = o.shared };
            own = record { point = o.point; last = stepped o.step };
          }
      | false ↦ record { common = c; own = x }
    ]

-- ---- the call

-- "for at most 129 × (n−1) + 260 rounds with n points"; "1,025 × (n−1) + 1,540" in edition two (document 02, K11). For each other point a Moved and the
-- words of two edge blocks again; and all words of the run, Extending, the words of the log block, its link or its loss, a Moved that only enters an empty
-- log block, the commit
abbrev pub serve_rounds : Edition → ℕ → ℕ
serve_rounds E n = (1 + 2 * E.block_words) * (n - 1) + (run_most E + 1 + E.block_words + 1 + 1 + 1)

-- one of these numbers stands twice
abbrev pub twice : List ℕ → Bool
twice [] = false
twice (x ∷ xs) = member x xs || twice xs

-- 26. "no points, more than 32 or not one write for each"; 27. "a point listed twice": by the points' numbers, and how many writes there are
unfoldable pub serve_refusal : List ℕ → ℕ → ℕ
serve_refusal numbers writes =
    first (26 when (not (between 1 (length numbers) 32) || not (eqb writes (length numbers))) ∷ 27 when twice numbers ∷ [])

abbrev pub point_numbers : List Point → List ℕ
point_numbers [] = []
point_numbers (p ∷ ps) = p.head.number ∷ point_numbers ps

-- the records of listed points; their answers
abbrev pub points_of : List Listed → List Point
points_of [] = []
points_of (x ∷ xs) = x.point ∷ points_of xs

abbrev pub lasts_of : List Listed → List Last
lasts_of [] = []
lasts_of (x ∷ xs) = x.last ∷ lasts_of xs

-- what the call answers and leaves; where it is refused there are no points' answers
pub record Service : Type 0 where
  pub reply : Reply
  pub common : Common
  pub points : List Point
  pub lasts : List Last

-- "It leaves what that row of beginnings and steps gives"; 26 and 27 "with nothing begun"
unfoldable pub serving : Edition → List ℕ → Shared → List Point → List Request → Service
serving E words s points requests =
    let c : Common = record { words = words; shared = s } in
    let r = row (begin_turn E) (step_turn E) (serve_rounds E (length points)) c (asking points requests) in
    elim (serve_refusal (point_numbers points) (length requests)) [
      | zero ↦ record { reply = Done; common = r.common; points = points_of r.own; lasts = lasts_of r.own }
      | suc n ↦ record { reply = Stopped (suc n); common = c; points = points; lasts = [] }
    ]
