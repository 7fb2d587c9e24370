-- Serving a list of points, with the records in one list: the row of beginnings and steps (document 02, K6), as `serving` has it. The writes are lent as their
-- offsets and sizes, their texts one after the other; the answers are kind and value.
use Rattle.std.specs.Prelude.{Ok, Err, ℕ, ◌+◌, Bool, true, false, List, [], ◌∷◌, map, length, get_or, take, drop, eqb}
use Rattle.words.specs.Edition.{one}
use Rattle.words.specs.Logic.{every}
use Rattle.block_log.specs.declared.Shared.{Shared}
use Rattle.block_log.specs.Refusals.{Reply, Refused}
use Rattle.points.specs.declared.Point.{Point}
use Rattle.points.specs.Serving.{Request, Last, last_kind, last_value, serving}

-- a write's offset; its size
abbrev pub offset_of : List ℕ → ℕ
offset_of write = get_or write 0 0

abbrev pub size_of : List ℕ → ℕ
size_of write = get_or write 1 0

-- the texts together
abbrev pub sizes_of : List (List ℕ) → ℕ
sizes_of [] = 0
sizes_of (w ∷ ws) = size_of w + sizes_of ws

-- "one write for each": the texts stand one after the other
abbrev pub requests_of : List (List ℕ) → List ℕ → List Request
requests_of [] bytes = []
requests_of (w ∷ ws) bytes = record { offset = offset_of w; text = take (size_of w) bytes } ∷ requests_of ws (drop (size_of w) bytes)

-- there are as many answers and writes as points, and the sizes add up to the bytes
unfoldable pub lent_for_each : ℕ → ℕ → List (List ℕ) → ℕ → Bool
lent_for_each n answers writes bytes = every (eqb answers n ∷ eqb (length writes) n ∷ eqb (sizes_of writes) bytes ∷ [])

-- a point's answer, kind and value
abbrev pub last_numbers : Last → List ℕ
last_numbers l = last_kind l ∷ last_value l ∷ []

-- where the call is refused the answers are as they were
abbrev pub answers_after : Reply → List (List ℕ) → List Last → List (List ℕ)
answers_after (Ok x) answers lasts = map last_numbers lasts
answers_after (Err e) answers lasts = answers

-- what the call answers and leaves
pub record DispatchLeft : Type 0 where
  pub reply : Reply
  pub words : List ℕ
  pub shared : Shared
  pub points : List Point
  pub answers : List (List ℕ)

abbrev pub dispatch_left : Reply → List ℕ → Shared → List Point → List (List ℕ) → DispatchLeft
dispatch_left reply words shared points answers = record { reply = reply; words = words; shared = shared; points = points; answers = answers }

-- 26 also where what is lent is not one write for each; else what `serving` says
unfoldable pub dispatched : List ℕ → Shared → List Point → List (List ℕ) → List (List ℕ) → List ℕ → DispatchLeft
dispatched words s points answers writes bytes =
    let v = serving one words s points (requests_of writes bytes) in
    elim (lent_for_each (length points) (length answers) writes (length bytes)) [
      | true ↦ dispatch_left v.reply v.common.words v.common.shared v.points (answers_after v.reply answers v.lasts)
      | false ↦ dispatch_left (Refused 26) words s points answers
    ]
