-- Parts of contracts: what turns leave in the lists that are lent. Not needed for belief.
use Rattle.std.specs.Prelude.{ℕ, ◌≡◌, Bool, ◌||◌, List, map, length, leb, eqb}
use Rattle.block_log.specs.declared.Shared.{Shared}
use Rattle.points.specs.declared.Point.{Point}
use Rattle.points.specs.Serving.{Turned, Asking, Common, Listed, points_of, lasts_of}
use Rattle.dispatch.specs.Dispatch.{sizes_of, last_numbers}

-- the kinds after which a write goes on: of a beginning, Stored, Moved, Extending, Copied
abbrev pub kind_goes_on : ℕ → Bool
kind_goes_on kind = leb kind 3 || eqb kind 6

-- what all turns share
abbrev pub common : List ℕ → Shared → Common
common words s = record { words = words; shared = s }

-- a point, and its write
abbrev pub asking_for : Point → ℕ → List ℕ → Asking
asking_for p offset text = record { point = p; request = record { offset = offset; text = text } }

-- there is an answer and a write for each point, and all bytes are some write's
pub record Lent (ps : List Point) (answers writes : List (List ℕ)) (bytes : List ℕ) : Type 0 where
  pub answers_are : length answers ≡ length ps
  pub writes_are : length writes ≡ length ps
  pub bytes_are : sizes_of writes ≡ length bytes

-- the records and the answers of these points
pub record Shows (xs : List Listed) (ps : List Point) (answers : List (List ℕ)) : Type 0 where
  pub points_are : ps ≡ points_of xs
  pub answers_are : answers ≡ map last_numbers (lasts_of xs)

-- what one turn leaves
pub record TurnLeaves (t : Turned Common Listed) (words : List ℕ) (s : Shared) (p : Point) (answer : List ℕ) : Type 0 where
  pub common_is : t.common ≡ common words s
  pub point_is : p ≡ t.own.point
  pub answer_is : answer ≡ last_numbers t.own.last

-- what turns leave, each point's in its place
pub record Leaves (t : Turned Common (List Listed)) (words : List ℕ) (s : Shared) (ps : List Point) (answers : List (List ℕ)) : Type 0 where
  pub common_is : t.common ≡ common words s
  pub shows : Shows t.own ps answers
