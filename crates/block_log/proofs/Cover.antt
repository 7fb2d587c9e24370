-- Which virtual blocks entries cover: what no entry covers is mapped as before. Entries are applied in the order of the arguments that a
-- proof about a list of them wants (`Sound` has that this is the definitions' replay).
use mathlib.Core.Path.{◌≡◌, refl, ◌∙◌}
use mathlib.Core.Logic.{◌⊎◌, inl, inr}
use mathlib.Core.List.{List, [], ◌∷◌, ◌++◌}
use Prim.Native.Nat.{ℕ, ◌+◌, ◌≤◌, ◌<◌}
use native.Mathlib.Decide.{dec_le, dec_lt}
use native.Mathlib.Omega.{arith}
use lib.ListN.{length, get_or}
use Rattle.words.specs.Edition.{Edition}
use Rattle.block_log.specs.Entry.{entry_v, entry_b, entry_n, entry_u, entry_of}
use Rattle.block_log.specs.Replay.{Mapped, empty_file}
use Rattle.block_log.proofs.Replay.{length-map_run, map_run-out}
use Rattle.block_log.specs.Replay.{Mapped, apply as replays, empty_file}

abbrev pub first_of : ℕ → ℕ
first_of e = entry_v e

abbrev pub block_of : ℕ → ℕ
block_of e = entry_b e

abbrev pub count_of : ℕ → ℕ
count_of e = entry_n e

abbrev pub used_of : Edition → ℕ → ℕ
used_of E e = entry_u E e

abbrev pub entry : Edition → ℕ → ℕ → ℕ → ℕ → ℕ → ℕ
entry E v b n u p = entry_of E v b n u p

-- the table and the length: what replay makes
abbrev pub View : Type 0
View = Mapped

unfoldable pub apply : Edition → ℕ → View → View
unfolding replays
apply E e w = replays E w e

abbrev pub apply_all : Edition → List ℕ → View → View
apply_all E [] w = w
apply_all E (e ∷ es) w = apply_all E es (apply E e w)

unfoldable pub fresh : View
fresh = empty_file

-- which virtual blocks an entry covers
pub record Covers (e v : ℕ) : Type 0 where
  pub above : first_of e ≤ v
  pub below : v < first_of e + count_of e

abbrev pub Clear : List ℕ → ℕ → Type 0
Clear [] v = Unit {0}
Clear (e ∷ es) v = (Covers e v → ⊥) × Clear es v

pub clear-append : (es fs : List ℕ) (v : ℕ) → Clear (es ++ fs) v → Clear es v × Clear fs v
clear-append [] fs v c = (tt, c)
clear-append (e ∷ es) fs v c = let r = clear-append es fs v c.1 in ((c.0, r.0), r.1)

pub apply_all-append : (E : Edition) (es fs : List ℕ) (w : View) → apply_all E (es ++ fs) w ≡ apply_all E fs (apply_all E es w)
apply_all-append E [] fs w = refl
apply_all-append E (e ∷ es) fs w = apply_all-append E es fs (apply E e w)

cover-or-out : (e x : ℕ) → (Covers e x → ⊥) → (x < first_of e) ⊎ (first_of e + count_of e ≤ x)
cover-or-out e x c = go (dec_lt x (first_of e)) (dec_le (first_of e + count_of e) x)
  where
    go : Dec (x < first_of e) → Dec (first_of e + count_of e ≤ x) → (x < first_of e) ⊎ (first_of e + count_of e ≤ x)
    go (yes h) d = inl h
    go (no h) (yes k) = inr k
    go (no h) (no k) = absurd (c (record { above = omega arith; below = omega arith }))

-- what no entry covers is mapped as before
pub apply-clear : (E : Edition) (es : List ℕ) (w : View) (x : ℕ) → Clear es x → get_or (apply_all E es w).table x 0 ≡ get_or w.table x 0
unfolding apply
apply-clear E [] w x c = refl
apply-clear E (e ∷ es) w x c =
    apply-clear E es (apply E e w) x c.1
    ∙ map_run-out w.table (first_of e) (block_of e) (count_of e) x (cover-or-out e x c.0)

-- entries shorten no file
pub apply_all-grows : (E : Edition) (es : List ℕ) (w : View) → w.size ≤ (apply_all E es w).size
apply_all-grows E [] w = omega arith
apply_all-grows E (e ∷ es) w = omega (arith, apply_all-grows E es (apply E e w), one_grows)
  where
    one_grows : w.size ≤ (apply E e w).size
    one_grows = unfold apply in (unfold replays in (omega arith))

pub length-apply_all : (E : Edition) (es : List ℕ) (w : View) → length (apply_all E es w).table ≡ length w.table
unfolding apply
length-apply_all E [] w = refl
length-apply_all E (e ∷ es) w = length-apply_all E es (apply E e w) ∙ length-map_run w.table (first_of e) (block_of e) (count_of e)
