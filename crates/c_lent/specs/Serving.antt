-- Serving a list of points, in numbers: the row of beginnings and steps, each as C has it (document 02, K6). The records are lent as three lists, of heads,
-- tables and texts; the writes as their offsets and sizes, and their texts one after the other; the answers are kind and value.
use Rattle.std.specs.Prelude.{ℕ, zero, suc, ◌+◌, ◌≡◌, Bool, true, false, ◌||◌, not, List, [], ◌∷◌, map, length, get_or, take, drop, leb, eqb}
use Rattle.words.specs.Edition.{one}
use Rattle.words.specs.Logic.{some_of, list_from, every, first, ◌when◌}
use Rattle.points.specs.Serving.{Turned, row, serve_rounds, twice}
use Rattle.c_lent.specs.Numbers.{SharedLent, PointLent}
use Rattle.c_lent.specs.Calls.{begin_for, step_for}

-- ---- what is lent

-- the image and the shared record, which all turns share
pub record CommonLent : Type 0 where
  pub image : List ℕ
  pub shared : SharedLent

-- a point of the list: its record, and its last answer
pub record ListedLent : Type 0 where
  pub point : PointLent
  pub answer : List ℕ

-- its record, and its write
pub record AskingLent : Type 0 where
  pub point : PointLent
  pub offset : ℕ
  pub text : List ℕ

abbrev pub point_as : List ℕ → List ℕ → List ℕ → PointLent
point_as head table text = record { head = head; table = table; text = text }

-- the points of these heads, tables and texts, with their answers; with their writes, each an offset and a size
abbrev pub listed_at : List (List ℕ) → List (List ℕ) → List (List ℕ) → List (List ℕ) → ℕ → ListedLent
listed_at heads tables texts answers i = record { point = point_as (get_or heads i []) (get_or tables i []) (get_or texts i []); answer = get_or answers i [] }

abbrev pub listed : List (List ℕ) → List (List ℕ) → List (List ℕ) → List (List ℕ) → List ListedLent
listed heads tables texts answers = list_from 0 (length heads) (listed_at heads tables texts answers)

abbrev pub offset_at : List (List ℕ) → ℕ → ℕ
offset_at writes i = get_or (get_or writes i []) 0 0

abbrev pub size_at : List (List ℕ) → ℕ → ℕ
size_at writes i = get_or (get_or writes i []) 1 0

-- where text i begins: the sizes of those before it
abbrev pub start_at : List (List ℕ) → ℕ → ℕ
start_at writes zero = 0
start_at writes (suc i) = start_at writes i + size_at writes i

abbrev pub asking_at : List (List ℕ) → List (List ℕ) → List (List ℕ) → List (List ℕ) → List ℕ → ℕ → AskingLent
asking_at heads tables texts writes bytes i =
    record {
      point = point_as (get_or heads i []) (get_or tables i []) (get_or texts i []);
      offset = offset_at writes i;
      text = take (size_at writes i) (drop (start_at writes i) bytes);
    }

abbrev pub asking : List (List ℕ) → List (List ℕ) → List (List ℕ) → List (List ℕ) → List ℕ → List AskingLent
asking heads tables texts writes bytes = list_from 0 (length heads) (asking_at heads tables texts writes bytes)

abbrev pub common_lent : List ℕ → SharedLent → CommonLent
common_lent image shared = record { image = image; shared = shared }

abbrev pub listed_lent : PointLent → List ℕ → ListedLent
listed_lent point answer = record { point = point; answer = answer }

abbrev pub asking_lent : PointLent → ℕ → List ℕ → AskingLent
asking_lent point offset text = record { point = point; offset = offset; text = text }

-- all lists have as many elements as that of the heads, and the sizes add up to the bytes
abbrev pub Lent : List (List ℕ) → List (List ℕ) → List (List ℕ) → List (List ℕ) → List (List ℕ) → List ℕ → Type 0
Lent heads tables texts answers writes bytes =
    (length tables ≡ length heads) × (length texts ≡ length heads) × (length answers ≡ length heads) × (length writes ≡ length heads)
    × (start_at writes (length heads) ≡ length bytes)

-- ---- turns

-- what a turn leaves
abbrev pub turn_left : {X : Type 0} → CommonLent → X → Turned CommonLent X
turn_left c x = record { common = c; own = x }

-- the answer of a beginning, by the refusal's number: a kind and a value
abbrev pub begun_answer : ℕ → List ℕ
begun_answer zero = 0 ∷ 0 ∷ []
begun_answer (suc n) = 5 ∷ suc n ∷ []

-- the kinds after which a write goes on: of a beginning, Stored, Moved, Extending, Copied
abbrev pub kind_goes_on : ℕ → Bool
kind_goes_on kind = leb kind 3 || eqb kind 6

abbrev pub kind_at : List (List ℕ) → ℕ → ℕ
kind_at answers i = get_or (get_or answers i []) 0 0

-- somebody's write goes on
abbrev pub any_goes_on : List (List ℕ) → Bool
any_goes_on answers = some_of kind_goes_on (list_from 0 (length answers) (kind_at answers))

unfoldable pub begin_turn_for : CommonLent → AskingLent → Turned CommonLent ListedLent
begin_turn_for c a =
    let b = begin_for c.image c.shared a.point a.offset a.text in
    record {
      common = record { image = c.image; shared = b.shared };
      own = record { point = b.point; answer = begun_answer b.refused };
    }

unfoldable pub step_turn_for : CommonLent → ListedLent → Turned CommonLent ListedLent
step_turn_for c x =
    let l = step_for c.image c.shared x.point [] in
    elim (kind_goes_on (get_or x.answer 0 0)) [
      | true ↦
          record {
            common = record { image = l.image; shared = l.shared };
            own = record { point = l.point; answer = l.answer.kind ∷ l.answer.value ∷ [] };
          }
      | false ↦ record { common = c; own = x }
    ]

-- ---- the call

abbrev pub number_at : List (List ℕ) → ℕ → ℕ
number_at heads i = get_or (get_or heads i []) 0 0

-- one point at least and 32 at most, and as many of each: tables, texts, writes and answers
unfoldable pub one_for_each : ℕ → ℕ → ℕ → ℕ → ℕ → Bool
one_for_each n tables texts writes answers = every (leb 1 n ∷ leb n 32 ∷ eqb tables n ∷ eqb texts n ∷ eqb writes n ∷ eqb answers n ∷ [])

-- 26: that is not so, or the texts are not as long as the sizes together: what is lent is not one write for each; 27: one of the heads' numbers stands twice
unfoldable pub serve_reason : List (List ℕ) → ℕ → ℕ → List (List ℕ) → ℕ → ℕ → ℕ
serve_reason heads tables texts writes answers bytes =
    first
    (26 when not (one_for_each (length heads) tables texts (length writes) answers)
    ∷ 26 when not (eqb (start_at writes (length writes)) bytes)
    ∷ 27 when twice (list_from 0 (length heads) (number_at heads))
    ∷ [])

-- what the call leaves
pub record ServeLeft : Type 0 where
  pub refused : ℕ
  pub common : CommonLent
  pub heads : List (List ℕ)
  pub tables : List (List ℕ)
  pub texts : List (List ℕ)
  pub answers : List (List ℕ)

abbrev pub serve_left : ℕ → CommonLent → List (List ℕ) → List (List ℕ) → List (List ℕ) → List (List ℕ) → ServeLeft
serve_left refused c heads tables texts answers =
    record { refused = refused; common = c; heads = heads; tables = tables; texts = texts; answers = answers }

-- of the points of a list
abbrev pub lists_of : CommonLent → List ListedLent → ServeLeft
lists_of c xs =
    serve_left 0 c (map (λ x. x.point.head) xs) (map (λ x. x.point.table) xs) (map (λ x. x.point.text) xs) (map (λ x. x.answer) xs)

-- "It leaves what that row of beginnings and steps gives"; 26 and 27 "with nothing begun"
unfoldable pub serve_for : CommonLent → List (List ℕ) → List (List ℕ) → List (List ℕ) → List (List ℕ) → List (List ℕ) → List ℕ → ServeLeft
serve_for c heads tables texts answers writes bytes =
    let r = row begin_turn_for step_turn_for (serve_rounds one (length heads)) c (asking heads tables texts writes bytes) in
    elim (serve_reason heads (length tables) (length texts) writes (length answers) (length bytes)) [
      | zero ↦ lists_of r.common r.own
      | suc n ↦ serve_left (suc n) c heads tables texts answers
    ]
