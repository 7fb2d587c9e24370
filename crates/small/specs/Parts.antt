-- What inner functions ask for and answer, for their contracts. Nothing here is promised: `SmallLogs` has what is.
use Rattle.std.specs.Prelude.{ℕ, suc, ◌+◌, ◌*◌, ◌≤◌, ◌≡◌, true, false, ◌&&◌, List, [], ◌∷◌, length, get_or, set, ltb}
use Rattle.words.specs.Logic.{up_to_zero}
use Rattle.small.specs.Tried.{accepts}

-- the log of this entry alone, 0 for the empty log
abbrev pub log_of : ℕ → List ℕ
log_of e = up_to_zero (e ∷ [])

-- a slice, and how many logs it holds so far
pub record Filled : Type 0 where
  pub words : List ℕ
  pub count : ℕ

-- the slice holds no more logs than there is room for
abbrev pub Room : List ℕ → ℕ → Type 0
Room words count = 2 * count ≤ length words

-- a log goes in behind the others if there is room and opening accepts it
unfoldable pub keep : Filled → List ℕ → Filled
keep f es =
    let at = 2 * f.count in
    let longer : Filled = record { words = set (set f.words at (get_or es 0 0)) (at + 1) (get_or es 1 0); count = suc f.count } in
    elim (ltb (at + 1) (length f.words) && accepts es) [ true ↦ longer | false ↦ f ]

-- one log after the other
unfoldable pub keep_all : Filled → List (List ℕ) → Filled
keep_all f [] = f
keep_all f (es ∷ logs) = keep_all (keep f es) logs

-- these logs have gone in, each if there is room and opening accepts it
abbrev pub Keeps : List (List ℕ) → List ℕ → ℕ → List ℕ → ℕ → Type 0
Keeps logs before count after r =
    (◌≡◌ {A = Filled} (record { words = after; count = r }) (keep_all (record { words = before; count = count }) logs)) × Room after r
