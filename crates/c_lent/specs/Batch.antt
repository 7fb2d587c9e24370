-- For the contracts of the code that serves a list of points in batches: parts of contracts, nothing here is promised. `Serving` has what is.
use Rattle.std.specs.Prelude.{ℕ, ◌+◌, ◌%◌, ◌≤◌, ◌<◌, ◌≡◌, ◌⊎◌, Bool, true, false, List, [], ◌∷◌, length, get_or, set, Option, Some, None}
use Rattle.words.specs.Edition.{one}
use Rattle.words.specs.Memory.{put}
use Rattle.points.specs.declared.Head.{Head}
use Rattle.points.specs.declared.Point.{Point}
use Rattle.points.specs.declared.serve.Due.{Due}
use Rattle.points.specs.Record.{is_reading, run_words}
use Rattle.points.specs.Stepping.{step_refusal}
use Rattle.points.specs.Batch.{row_of, Fillable, Prepared, filled_at}
use Rattle.points.specs.Serving.{rounds}
use Rattle.c_lent.specs.Numbers.{SharedLent, PointLent, shared_as, shared_in, lend_point, head_from}
use Rattle.c_lent.specs.Serving.{CommonLent, ListedLent, common_lent, listed, listed_at, listed_lent, point_as, turn_left, kind_goes_on, step_turn_for}

-- ---- points that are known to fit

-- these numbers are a record's, and a step of its write is not refused
pub record ReadyAt (c : CommonLent) (x : ListedLent) : Type 0 where
  pub point : Point
  pub is : x.point ≡ lend_point point
  pub few : point.head.write.retries ≤ 65535
  pub numbers : 3 ≤ length c.shared.numbers
  pub unrefused : step_refusal one c.image (shared_in c.shared) point.head point.table ≡ 0
  pub unread : is_reading point.head.write.phase ≡ false

-- so are these, whatever the point was answered
abbrev pub Steps : List ℕ → SharedLent → PointLent → Type 0
Steps words s p = (a : List ℕ) → ReadyAt (common_lent words s) (listed_lent p a)

-- each of n points whose write goes on
abbrev pub Going : ℕ → (ℕ → ListedLent) → (ListedLent → Type 0) → Type 0
Going n f P = (i : ℕ) → i < n → kind_goes_on (get_or (f i).answer 0 0) ≡ true → P (f i)

abbrev pub AllReady : CommonLent → ℕ → (ℕ → ListedLent) → Type 0
AllReady c n f = Going n f (ReadyAt c)

-- the four lists of n points
abbrev pub Lengths : ℕ → List (List ℕ) → List (List ℕ) → List (List ℕ) → List (List ℕ) → Type 0
Lengths n heads tables texts answers = (length heads ≡ n) × (length tables ≡ n) × (length texts ≡ n) × (length answers ≡ n)

-- these lists, and what their points share
pub record ListsLent : Type 0 where
  pub common : CommonLent
  pub heads : List (List ℕ)
  pub tables : List (List ℕ)
  pub texts : List (List ℕ)
  pub answers : List (List ℕ)

abbrev pub lists_lent : List ℕ → SharedLent → List (List ℕ) → List (List ℕ) → List (List ℕ) → List (List ℕ) → ListsLent
lists_lent words s heads tables texts answers =
    record { common = common_lent words s; heads = heads; tables = tables; texts = texts; answers = answers }

abbrev pub points_of : ListsLent → List ListedLent
points_of x = listed x.heads x.tables x.texts x.answers

-- they are as long as each other, and each point whose write goes on is known to fit
pub record Ready (x : ListsLent) : Type 0 where
  pub lengths : Lengths (length x.heads) x.heads x.tables x.texts x.answers
  pub fits : AllReady x.common (length x.heads) (listed_at x.heads x.tables x.texts x.answers)

-- y is what m rounds of steps leave of x, and each point whose write goes on is known to fit again
abbrev pub RoundsMade : ℕ → ListsLent → ListsLent → Type 0
RoundsMade m x y =
    (turn_left y.common (points_of y) ≡ rounds m step_turn_for x.common (points_of x))
    × AllReady y.common (length x.heads) (listed_at y.heads y.tables y.texts y.answers)

-- ---- steps without tests

-- what moving on by one entry leaves: where it is done, what a step leaves of every such point whose write goes on
pub record MovesOn (words numbers head table : List ℕ) (done : Bool) (numbers' head' table' : List ℕ) : Type 0 where
  pub moved :
      done ≡ true → (taken text a : List ℕ) → Steps words (shared_as numbers taken) (point_as head table text) → kind_goes_on (get_or a 0 0) ≡ true
      → turn_left (common_lent words (shared_as numbers' taken)) (listed_lent (point_as head' table' text) (2 ∷ 0 ∷ []))
      ≡ step_turn_for (common_lent words (shared_as numbers taken)) (listed_lent (point_as head table text) a)
  pub stayed : done ≡ false → (numbers' ≡ numbers) × (head' ≡ head) × (table' ≡ table)

-- the same of committing
pub record CommitsOn (words taken head table text : List ℕ) (done : Bool) (words' taken' head' table' text' : List ℕ) : Type 0 where
  pub committed :
      done ≡ true → (numbers a : List ℕ) → Steps words (shared_as numbers taken) (point_as head table text) → kind_goes_on (get_or a 0 0) ≡ true
      → turn_left (common_lent words' (shared_as numbers taken')) (listed_lent (point_as head' table' text') (4 ∷ get_or head 10 0 ∷ []))
      ≡ step_turn_for (common_lent words (shared_as numbers taken)) (listed_lent (point_as head table text) a)
  pub stayed : done ≡ false → (words' ≡ words) × (taken' ≡ taken) × (head' ≡ head) × (table' ≡ table) × (text' ≡ text)

-- ---- rounds in which each stores a word

-- so many words are left to fill, in one block of the run; or to zero; each of them is stored by a step of its own
abbrev pub Fills : ℕ → List ℕ → Type 0
Fills m h = (get_or h 7 0 ≡ 1) × (get_or h 8 0 % one.block_words + m ≤ one.block_words) × (get_or h 8 0 + m ≤ run_words one (head_from h).write)

abbrev pub Zeroes : ℕ → List ℕ → Type 0
Zeroes m h = (get_or h 7 0 ≡ 5) × (get_or h 8 0 + m ≤ one.block_words)

abbrev pub PlainAt : ℕ → List ℕ → Type 0
PlainAt m h = Fills m h ⊎ Zeroes m h

abbrev pub Plain : ℕ → ListedLent → Type 0
Plain m x = PlainAt m x.point.head

-- so it is of each point whose write goes on
abbrev pub AllPlain : ℕ → List (List ℕ) → List (List ℕ) → Type 0
AllPlain m heads answers =
    (i : ℕ) → i < length heads → kind_goes_on (get_or (get_or answers i []) 0 0) ≡ true → PlainAt m (get_or heads i [])

-- it is one point alone, and its write is being filled
abbrev pub FillsAlone : List (List ℕ) → List (List ℕ) → Type 0
FillsAlone heads answers =
    (length heads ≡ 1) × (kind_goes_on (get_or (get_or answers 0 []) 0 0) ≡ true) × (get_or (get_or heads 0 []) 7 0 ≡ 1)

-- a point after such a step: one word on
unfoldable pub one_on : ListedLent → ListedLent
one_on x =
    let h = x.point.head in
    elim (kind_goes_on (get_or x.answer 0 0)) [
      | true ↦ listed_lent (point_as (set h 8 (get_or h 8 0 + 1)) x.point.table x.point.text) (1 ∷ 0 ∷ [])
      | false ↦ x
    ]

-- the row of the next m words of a point whose run is being filled
abbrev pub RowFor : ℕ → Due → ListedLent → Type 0
RowFor m r x =
    let h = x.point.head in
    get_or h 7 0 ≡ 1 → (j : ℕ) → j < m → r.row ≡ row_of one (head_from h) x.point.table (get_or h 8 0 + j)

-- that of the next word alone, where there is one
abbrev pub RowAt : Due → List ℕ → List ℕ → Type 0
RowAt r h table = Fillable (head_from h) (get_or h 8 0) → r.row ≡ row_of one (head_from h) table (get_or h 8 0)

-- the next m steps of a point are such ones, and its row is at hand
pub record NextWords (m : ℕ) (row : Due) (x : ListedLent) : Type 0 where
  pub plain : Plain m x
  pub row_is : RowFor m row x

-- what the store of such a step leaves of an image
pub record StoresNext (words : List ℕ) (row : Due) (phase block k : ℕ) (text left : List ℕ) : Type 0 where
  pub zeroed : phase ≡ 5 → left ≡ put one words (record { block = block; word = k; value = 0 })
  pub filled :
      (phase ≡ 5 → ⊥) → (h : Head) (table : List ℕ) → Prepared row.row h table k → left ≡ filled_at one h table text k words

-- the row of a point whose write goes on, and its next word; none for another
pub record RowOn (r : Due) (h table : List ℕ) : Type 0 where
  pub next : get_or h 8 0 ≡ r.next
  pub zeroes : get_or h 7 0 ≡ 5 → (r.row.run ≡ get_or h 9 0) × (r.row.from ≡ 0) × (r.row.lead ≡ 4096) × (r.row.end ≡ 4096)
  pub fills : (get_or h 7 0 ≡ 5 → ⊥) → RowAt r h table

pub record RowIs (kind : ℕ) (r : Option Due) (h table : List ℕ) : Type 0 where
  pub on : kind_goes_on kind ≡ true → (d : Due) × (r ≡ Some d) × RowOn d h table
  pub off : kind_goes_on kind ≡ false → r ≡ None

-- a point after m such steps
unfoldable pub words_on : ℕ → ListedLent → ListedLent
words_on m x =
    let h = x.point.head in
    elim (kind_goes_on (get_or x.answer 0 0)) [
      | true ↦ listed_lent (point_as (set h 8 (get_or h 8 0 + m)) x.point.table x.point.text) (1 ∷ 0 ∷ [])
      | false ↦ x
    ]
