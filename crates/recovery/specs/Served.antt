-- The calls of the code are the calls of the list: what a call leaves is what `serve` says of it, in every world that has the image and the
-- shared record that it was lent and in which the point hands in the record that it was given. So the claims hold of the code. Opening makes the world
-- that a list begins with; reading at once and locating, which are no calls of the list, show the book's file. The call that serves a list of points is a row
-- of them: crate dispatch has it with records, where its contract is `serving`, which `ServeServed` is about; of the one with numbers c_served says it.
use Rattle.std.specs.Prelude.{Err, ℕ, ◌+◌, ◌*◌, ◌<◌, ◌≡◌, true, false, List, [], ◌∷◌, ◌++◌, map, length, get_or, drop}
use Rattle.std.proofs.Math.Option.{none, some}
use Rattle.words.specs.Edition.{Edition, block_bytes, file_blocks}
use Rattle.words.specs.Memory.{memory}
use Rattle.words.specs.Logic.{member}
use Rattle.block_log.specs.declared.Refusal.{Refusal}
use Rattle.block_log.specs.Refusals.{Done}
use Rattle.block_log.specs.Replay.{mapped_byte}
use Rattle.block_log.specs.Opening.{open_refusal, number_of, reply_of}
use Rattle.block_log.specs.declared.Shared.{Shared}
use Rattle.block_log.specs.declared.Opened.{Opened}
use Rattle.points.specs.declared.Head.{Head}
use Rattle.points.specs.declared.Point.{Point}
use Rattle.points.specs.declared.Count.{Count}
use Rattle.points.specs.declared.Joined.{Joined}
use Rattle.points.specs.declared.Begun.{Begun}
use Rattle.points.specs.declared.Stepped.{Stepped}
use Rattle.points.specs.declared.Left.{Left}
use Rattle.points.specs.Record.{is_joined}
use Rattle.points.specs.Stepping.{bytes_after}
use Rattle.points.specs.Serving.{Request, Service, serve_refusal, point_numbers}
use Rattle.recovery.specs.World.{World, join, begin, begin_read, step, leave, Event, joined, begun, begun_read, stepped, left}
use Rattle.recovery.specs.World.{handed, with_newest, joined_as, serve, start, world, events}
use Rattle.recovery.specs.Row.{Turn, row_calls, last_answer}
use Rattle.recovery.specs.History.{History, open_world, at_cut, book_file, is_fault}
use Rattle.recovery.specs.Claim.{part_of}

-- a world in which this point hands in this record, and which has this image and this shared record
pub record HandsIn (w : World) (words : List ℕ) (s : Shared) (n : ℕ) (given handed_in : Point) : Type 0 where
  pub image : w.words ≡ words
  pub shared : w.shared ≡ s
  pub record_is : handed w n given ≡ handed_in

-- not refused, the image is one of a history, and this is the world at its opening
unfoldable pub OpenServed : Edition → List ℕ → List ℕ → Opened → Type 0
OpenServed E words scratch r = (r.reply ≡ Done → open_refusal E words scratch ≡ 0) × (open_world E words scratch ≡ start words r.shared)

unfoldable pub JoinServed : Edition → List ℕ → Shared → ℕ → Joined → Type 0
JoinServed E words s n r =
    (w : World) → w.words ≡ words → w.shared ≡ s
    → serve E w (join n) ≡ record {
      event = joined n r.reply;
      world = record { words = words; shared = r.shared; newest = joined_as r.reply w n r.point };
    }

unfoldable pub BeginServed : Edition → List ℕ → Shared → Point → ℕ → List ℕ → Begun → Type 0
BeginServed E words s p offset text r =
    (w : World) (n : ℕ) (q : Point) → HandsIn w words s n q p
    → serve E w (begin n q offset text) ≡ record {
      event = begun n offset text r.reply;
      world = record { words = words; shared = r.shared; newest = with_newest w n r.point };
    }

unfoldable pub BeginReadServed : Edition → List ℕ → Shared → Point → ℕ → ℕ → Begun → Type 0
BeginReadServed E words s p offset size r =
    (w : World) (n : ℕ) (q : Point) → HandsIn w words s n q p
    → serve E w (begin_read n q offset size) ≡ record {
      event = begun_read n offset size r.reply;
      world = record { words = words; shared = r.shared; newest = with_newest w n r.point };
    }

-- with the image and the lent bytes as the step leaves them: the event has the bytes that came back, which are the first of those lent, and the others are
-- as they were
pub record StepServedAs (E : Edition) (w : World) (n : ℕ) (q p : Point) (lent : List ℕ) (r : Stepped) (stored bytes : List ℕ) : Type 0 where
  pub answer : List ℕ
  pub handed : bytes ≡ bytes_after answer lent
  pub served : serve E w (step n q) ≡ record {
    event = stepped n p.head r.step answer;
    world = record { words = stored; shared = r.shared; newest = with_newest w n r.point };
  }

unfoldable pub StepServed : Edition → List ℕ → Shared → Point → List ℕ → Stepped → List ℕ → List ℕ → Type 0
StepServed E words s p lent r stored bytes = (w : World) (n : ℕ) (q : Point) → HandsIn w words s n q p → StepServedAs E w n q p lent r stored bytes

unfoldable pub LeaveServed : Edition → List ℕ → Shared → Point → Left → Type 0
LeaveServed E words s p r =
    (w : World) (n : ℕ) (q : Point) → HandsIn w words s n q p
    → serve E w (leave n q) ≡ record {
      event = left n r.reply;
      world = record { words = words; shared = r.shared; newest = w.newest };
    }

-- a history at whose cut image and shared record are these, and in which point n is joined, with a newest record of this head and this table
pub record StandsAt {E : Edition} (h : History E) (words : List ℕ) (s : Shared) (n : ℕ) (head : Head) (table : List ℕ) : Type 0 where
  pub image : (at_cut h).words ≡ words
  pub shared : (at_cut h).shared ≡ s
  pub is_in : is_joined (at_cut h).shared n ≡ true
  pub head_is : ((at_cut h).newest n).head ≡ head
  pub table_is : ((at_cut h).newest n).table ≡ table

-- it is not refused, answers how many bytes of the book's file it found, and has left them at the buffer's front
unfoldable pub ReadServed : Edition → List ℕ → Shared → Head → List ℕ → ℕ → List ℕ → Count → List ℕ → Type 0
ReadServed E words s head table offset buffer r filled =
    (h : History E) (n : ℕ) → StandsAt h words s n head table
    → let part = part_of (book_file h) offset (length buffer) in
    (r ≡ record { reply = Done; count = length part }) × (filled ≡ part ++ drop (length part) buffer)

-- it is not refused by 10, 11, 14 or 18, and the block that it answers, 0 for none, holds the book's file there
unfoldable pub LocateServed : Edition → List ℕ → Shared → Head → List ℕ → ℕ → Count → Type 0
LocateServed E words s head table v r =
    (h : History E) (n : ℕ) → StandsAt h words s n head table
    → (is_fault (number_of r.reply) ≡ false)
    × ((q : ℕ) → v < file_blocks → q < block_bytes E → mapped_byte (memory E words) r.count q ≡ get_or (book_file h) (block_bytes E * v + q) 0)

-- ---- the call that serves a list of points, as a row of calls (document 02, K6)

-- a world in which these turns are of these points, each with its number, and of these writes
abbrev pub TurnsOf : World → List ℕ → Shared → List Turn → List Point → List Request → Type 0
TurnsOf w words s [] [] [] = Unit {0}
TurnsOf w words s (t ∷ ts) (p ∷ ps) (q ∷ qs) =
    (HandsIn w words s t.number t.given p × (t.number ≡ p.head.number) × (t.request ≡ q)) × TurnsOf w words s ts ps qs
TurnsOf w words s [] [] (q ∷ qs) = ⊥
TurnsOf w words s [] (p ∷ ps) qs = ⊥
TurnsOf w words s (t ∷ ts) [] qs = ⊥
TurnsOf w words s (t ∷ ts) (p ∷ ps) [] = ⊥

-- the row, from world w to v with these events, leaves image and shared record as the call does, the newest records of the listed points too, and those of
-- all others as they were; and the call answers for each listed point what its last beginning or step in the row answered
pub record RowServed (w v : World) (es : List Event) (ts : List Turn) (r : Service) : Type 0 where
  pub image : v.words ≡ r.common.words
  pub shared : v.shared ≡ r.common.shared
  pub listed : map (λ t. v.newest t.number) ts ≡ r.points
  pub others : (k : ℕ) → member k (map (λ t. t.number) ts) ≡ false → v.newest k ≡ w.newest k
  pub answered : map (λ t. last_answer t.number none es) ts ≡ map (λ a. some a) r.lasts

-- it is refused where 26 or 27 holds, and there alone; what is left and answered is what the row of its beginnings and steps leaves and answers; refused,
-- nothing is begun and nobody answered
unfoldable pub ServeServed : Edition → List ℕ → Shared → List Point → List Request → Service → Type 0
ServeServed E words s points requests r =
    (r.reply ≡ reply_of (serve_refusal (point_numbers points) (length requests)))
    × (r.reply ≡ Done → (w : World) → w.words ≡ words → w.shared ≡ s → (ts : List Turn) → TurnsOf w words s ts points requests
    → let calls = row_calls E w ts in RowServed w (world E w calls) (events E w calls) ts r)
    × ((e : Refusal) → r.reply ≡ Err e → (r.common ≡ record { words = words; shared = s }) × (r.points ≡ points) × (r.lasts ≡ []))
