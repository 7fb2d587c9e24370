-- Catching up: the walk from a log place to the tail (document 01, "A write, step by step", reason 18; document 02, K4).
use Rattle.std.specs.Prelude.{ℕ, zero, suc, ◌+◌, ◌≡◌, Bool, true, false, not, List, [], ◌∷◌, ◌++◌, length, ltb}
use Rattle.std.proofs.Math.Option.{Option, none, some}
use Rattle.words.specs.Edition.{Edition, one}
use Rattle.words.specs.Logic.{any}
use Rattle.words.specs.Memory.{Memory, block_at}
use Rattle.block_log.specs.declared.Place.{Place}
use Rattle.block_log.specs.Chain.{next_index, entries_from}
use Rattle.block_log.specs.Opening.{bad_entry}
use Rattle.block_log.specs.Replay.{Mapped, replay_on}

-- what a walk read, where it ended, and how many log blocks it entered. `sound` fails where a next index is outside or no more log block may be entered
pub record Walk : Type 0 where
  pub entries : List ℕ
  pub block : ℕ
  pub slot : ℕ
  pub entered : ℕ
  pub sound : Bool

-- a walk that ends in the log block where it begins
abbrev pub ended : List ℕ → ℕ → ℕ → Bool → Walk
ended es block slot sound = record { entries = es; block = block; slot = slot; entered = 0; sound = sound }

-- a walk with the entries of one more log block in front
abbrev pub following : List ℕ → Walk → Walk
following es w = record { entries = es ++ w.entries; block = w.block; slot = w.slot; entered = suc w.entered; sound = w.sound }

-- the walk from slot i of log block b; `enter` says how it goes on at a next index, none where that may not be entered
unfoldable pub walk_in : Edition → Memory → (ℕ → Option Walk) → ℕ → ℕ → Walk
walk_in E m enter b i =
    let es = entries_from i (block_at m b) in
    elim (ltb (i + length es) E.block_words) [
      | true ↦ ended es b (i + length es) true
      | false ↦
          elim (next_index m b) [
            | zero ↦ ended es b (i + length es) true
            | suc x ↦ elim (enter (suc x)) [ none ↦ ended es b (i + length es) false | some w ↦ following es w ]
          ]
    ]

-- "all entries from the log place to the tail, passing into next blocks"; `room` is how many more log blocks may be entered
unfoldable pub walk : Edition → Memory → ℕ → ℕ → ℕ → ℕ → Walk
walk E m blocks zero = walk_in E m (λ x. none)
walk E m blocks (suc room) = walk_in E m (λ x. elim (ltb x blocks) [ true ↦ some (walk E m blocks room x 2) | false ↦ none ])

-- the walk from a log place: no more log blocks are entered than the image has blocks
unfoldable pub ahead : Edition → Memory → ℕ → Place → Walk
ahead E m blocks p = walk E m blocks blocks p.block p.slot

-- the log place at the end of a walk
abbrev pub place_after : Walk → Place
place_after w = record { block = w.block; slot = w.slot }

-- 18. "an entry up to the first empty word breaks 7, a next index is not below the block count", or, "in place of a 65th", more log blocks would be
-- entered "than the image has blocks"
unfoldable pub broken : Edition → ℕ → Walk → Bool
broken E blocks w = any (not w.sound ∷ bad_entry E blocks w.entries ∷ [])

-- entries are taken in: the table after and the length r are what replay makes of the table and the length before
abbrev pub TakenIn : List ℕ → List ℕ → ℕ → List ℕ → ℕ → Type 0
TakenIn entries before size after r = ◌≡◌ {A = Mapped} (record { table = after; size = r }) (replay_on one (record { table = before; size = size }) entries)
