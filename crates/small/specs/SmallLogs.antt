-- Every small log (document 02, K9): "all legal logs for a laid-out 4-block image with all-zero data blocks, at most two plain entries, virtual
-- blocks 0 and 1 only, used bytes 512, point 0". What makes a list of logs the list of these, how a slice holds them, and how an entry is printed.
use Rattle.std.specs.Prelude.{ℕ, ◌+◌, ◌*◌, ◌-◌, ◌/◌, ◌^◌, ◌≤◌, ◌<◌, ◌≡◌, ◌↔◌, ◌⊎◌, Bool, true, false, ◌&&◌, ◌||◌, length, get_or, take, drop, replicate, ltb, eqb}
use mathlib.Core.List.{List, [], ◌∷◌, ◌++◌, flat_map}
use Rattle.words.specs.Edition.{one, blocks_max}
use Rattle.words.specs.Logic.{list_from}
use Rattle.words.specs.Word.{bits}
use Rattle.block_log.specs.Entry.{entry_u, entry_point, covers}
use Rattle.block_log.specs.Opening.{layout, open_refusal}

-- e is an element of the list
module _ {A : Type 0} where
  abbrev pub Among : A → List A → Type 0
  Among e [] = ⊥
  Among e (x ∷ xs) = (x ≡ e) ⊎ Among e xs

-- ---- the kind

-- "virtual blocks 0 and 1 only, used bytes 512, point 0"; otherwise any word
pub record SmallEntry (w : ℕ) : Type 0 where
  pub word : w < 2 ^ 64
  pub virtual : (v : ℕ) → covers v w ≡ true → v < 2
  pub used : entry_u one w ≡ 512
  pub point : entry_point one w ≡ 0

-- "at most two plain entries": all entries are plain until groups come (document 02, K8)
pub record SmallLog (es : List ℕ) : Type 0 where
  pub short : length es ≤ 2
  pub kind : (w : ℕ) → Among w es → SmallEntry w

-- ---- the image

-- "a laid-out 4-block image with all-zero data blocks"
abbrev pub blank : List ℕ
blank = layout one (replicate (4 * one.block_words) 0)

-- with these entries: the log's first slot is word 2 of block 1
unfoldable pub image_with : List ℕ → List ℕ
image_with es = let at = one.block_words + 2 in take at blank ++ es ++ drop (at + length es) blank

-- ---- the claim

-- of two logs of one length: "by the first entry and then the second as whole numbers"
abbrev pub smaller : List ℕ → List ℕ → Bool
smaller [] ys = false
smaller (x ∷ xs) [] = false
smaller (x ∷ xs) (y ∷ ys) = ltb x y || (eqb x y && smaller xs ys)

-- "shortest first, then .."
abbrev pub precedes : List ℕ → List ℕ → Bool
precedes xs ys = ltb (length xs) (length ys) || (eqb (length xs) (length ys) && smaller xs ys)

-- "ascending, each once": each log precedes all that follow
abbrev pub Ascending : List (List ℕ) → Type 0
Ascending logs = (i j : ℕ) → i < j → j < length logs → precedes (get_or logs i []) (get_or logs j []) ≡ true

-- These are all legal small logs: each is small; "Legal means that opening accepts": a small log is among them exactly when opening, lent any scratch that
-- is long enough, accepts the image with its entries; they ascend; "There are 33".
pub record AllLegal (logs : List (List ℕ)) : Type 0 where
  pub small : (es : List ℕ) → Among es logs → SmallLog es
  pub exact : (es : List ℕ) → SmallLog es → (scratch : List ℕ) → blocks_max ≤ length scratch
      → Among es logs ↔ (open_refusal one (image_with es) scratch ≡ 0)
  pub ascending : Ascending logs
  pub count : length logs ≡ 33

-- ---- the slice

-- a log as two words, 0 for an entry that it does not have
abbrev pub two_slots : List ℕ → List ℕ
two_slots es = get_or es 0 0 ∷ get_or es 1 0 ∷ []

-- A slice before and after, and the answer: as many logs as there is room for, in order, two words each; what lies behind them stays; how many.
abbrev pub Fills : List (List ℕ) → List ℕ → List ℕ → ℕ → Type 0
Fills logs before after r =
    let shown = take (length before / 2) logs in
    (after ≡ flat_map two_slots shown ++ drop (2 * length shown) before) × (r ≡ length shown)

-- ---- an entry's digits

-- a hexadecimal digit in ASCII, in capitals: 48 is `0`, 65 is `A`
unfoldable pub hex_digit : ℕ → ℕ
hex_digit d = elim (ltb d 10) [ true ↦ 48 + d | false ↦ 55 + d ]

-- an entry's digit i is four bits, the highest first
abbrev pub digit_at : ℕ → ℕ → ℕ
digit_at e i = hex_digit (bits e (60 - 4 * i) 4)

-- "each entry as 16 hexadecimal digits"
abbrev pub digits_of : ℕ → List ℕ
digits_of e = list_from 0 16 (digit_at e)
