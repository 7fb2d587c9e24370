-- How many words all points have left to store one by one, and their rows.
use mathlib.Core.Path.{◌≡◌, refl, sym, ◌∙◌, subst}
use mathlib.Core.Logic.{inl, inr}
use mathlib.Core.Bool.{true}
use mathlib.Core.List.{List, []}
use Prim.Native.Nat.{ℕ, ◌+◌, ◌*◌, ◌-◌, ◌/◌, ◌%◌, ◌≤◌, ◌<◌}
use native.Mathlib.Omega.{arith}
use native.Mathlib.Decide.{ℕ_discrete}
use lib.ListN.{length, get_or, set}
use lib.Seq.{get_or-set_same, get_or-set_other}
use Rattle.words.specs.Edition.{one}
use Rattle.points.specs.declared.Head.{Head}
use Rattle.points.specs.declared.serve.Row.{Row}
use Rattle.points.specs.declared.serve.Due.{Due}
use Rattle.std.specs.Prelude.{Option, None}
use Rattle.points.specs.Record.{span}
use Rattle.points.specs.Lent.{TextFits}
use Rattle.points.specs.Batch.{row_of, Fillable}
use Rattle.points.proofs.Ready.{ready-text}
use Rattle.points.proofs.Rows.{row_same}
use Rattle.c_lent.specs.Numbers.{PointLent, head_from, is_known}
use Rattle.c_lent.specs.Serving.{CommonLent, ListedLent, listed_at, kind_goes_on}
use Rattle.c_lent.specs.Batch.{ReadyAt, AllReady, PlainAt, Plain, RowAt, RowFor, RowOn, RowIs, Lengths}
use Rattle.c_lent.proofs.ReadyAt.{is-ready, is_known_lem}

-- ---- words

fills-few : (words k position : ℕ) → position ≡ k → k < 64 * words → (position % 64 + (64 - k % 64) ≤ 64) × (position + (64 - k % 64) ≤ words * 64)
fills-few words k position e l = (omega arith, omega arith)

pub fills-left : (h : List ℕ) (words offset size k : ℕ) → words ≡ span one offset size → get_or h 4 0 ≡ offset → get_or h 5 0 ≡ size → get_or h 7 0 ≡ 1
    → get_or h 8 0 ≡ k → k < 64 * words → PlainAt (64 - k % 64) h
fills-left h words offset size k e eo es ep ek l =
    let d : words ≡ span one (get_or h 4 0) (get_or h 5 0) = rw (eo, es) e in
    let f = fills-few words k (get_or h 8 0) ek l in
    let far : get_or h 8 0 + (64 - k % 64) ≤ span one (get_or h 4 0) (get_or h 5 0) * 64 = rw d at f.1 in
    inl (ep, f.0, far)

pub plain-fewer : (m k : ℕ) (h : List ℕ) → k ≤ m → PlainAt m h → PlainAt k h
plain-fewer m k h l (inl f) = let near = f.1 in let far = f.2 in inl (f.0, omega arith, omega arith)
plain-fewer m k h l (inr z) = let near = z.1 in inr (z.0, omega arith)

abbrev pub GoesAt : List (List ℕ) → ℕ → Type 0
GoesAt answers i = kind_goes_on (get_or (get_or answers i []) 0 0) ≡ true

-- one more of them
pub words-next : (heads answers : List (List ℕ)) (i least r : ℕ) → (0 < least → (j : ℕ) → j < i → GoesAt answers j → PlainAt least (get_or heads j []))
    → r ≤ least → (GoesAt answers i → 0 < r → PlainAt r (get_or heads i []))
    → 0 < r → (j : ℕ) → j < i + 1 → GoesAt answers j → PlainAt r (get_or heads j [])
words-next heads answers i least r before le here some j l g = go (ℕ_discrete j i)
  where
    go : Dec (j ≡ i) → PlainAt r (get_or heads j [])
    go (yes q) =
        subst (λ (k : ℕ). GoesAt answers k → PlainAt r (get_or heads k [])) (sym q) (λ g'. here g' some) g
    go (no q) = plain-fewer least r (get_or heads j []) le (before (omega arith) j (omega arith) g)

-- ---- rows

row-numbers : (known : Head) (h table : List ℕ) (d : Due) → known ≡ head_from h
    → (Fillable known (get_or h 8 0) → d.row ≡ row_of one known table (get_or h 8 0)) → RowAt d h table
row-numbers known h table d e f = subst (λ (x : Head). Fillable x (get_or h 8 0) → d.row ≡ row_of one x table (get_or h 8 0)) e f

-- that of a log block that is zeroed, and that of a run
pub zero_row : (h table : List ℕ) → get_or h 7 0 ≡ 5
    → RowOn (record { row = record { run = get_or h 9 0; from = 0; lead = 4096; end = 4096 }; next = get_or h 8 0 }) h table
zero_row h table e = record { next = refl; zeroes = λ d. (refl, refl, refl, refl); fills = λ d. absurd (d e) }

pub fill-row : (known : Head) (h table : List ℕ) (r : Row) → known ≡ head_from h
    → (Fillable known (get_or h 8 0) → r ≡ row_of one known table (get_or h 8 0)) → (get_or h 7 0 ≡ 5 → ⊥)
    → RowOn (record { row = r; next = get_or h 8 0 }) h table
fill-row known h table r e f other =
    record { next = refl; zeroes = λ d. absurd (other d); fills = λ d. row-numbers known h table (record { row = r; next = get_or h 8 0 }) e f }

pub rows-set : (heads tables answers : List (List ℕ)) (rows : List (Option Due)) (row : Option Due) (i : ℕ) → i < length rows
    → ((j : ℕ) → j < i → RowIs (get_or (get_or answers j []) 0 0) (get_or rows j None) (get_or heads j []) (get_or tables j []))
    → RowIs (get_or (get_or answers i []) 0 0) row (get_or heads i []) (get_or tables i [])
    → (j : ℕ) → j < i + 1 → RowIs (get_or (get_or answers j []) 0 0) (get_or (set rows i row) j None) (get_or heads j []) (get_or tables j [])
rows-set heads tables answers rows row i l before here j k = go (ℕ_discrete j i)
  where
    go : Dec (j ≡ i) → RowIs (get_or (get_or answers j []) 0 0) (get_or (set rows i row) j None) (get_or heads j []) (get_or tables j [])
    go (yes q) =
        subst (λ (m : ℕ). RowIs (get_or (get_or answers m []) 0 0) (get_or (set rows i row) m None) (get_or heads m []) (get_or tables m [])) (sym q)
        (subst (λ (x : Option Due). RowIs (get_or (get_or answers i []) 0 0) x (get_or heads i []) (get_or tables i [])) (sym (get_or-set_same rows i row None l)) here)
    go (no q) =
        subst (λ (x : Option Due). RowIs (get_or (get_or answers j []) 0 0) x (get_or heads j []) (get_or tables j [])) (sym (get_or-set_other rows i j row None q))
        (before j (omega arith))

-- ---- what a batch asks for

-- the text of a ready point fits
text-fits : {c : CommonLent} {x : ListedLent} → ReadyAt c x → TextFits (head_from x.point.head).write
text-fits r = subst (λ (y : PointLent). TextFits (head_from y.head).write) (sym r.is) (ready-text (is-ready r))

-- the row of the next word is that of all m
pub row_made : {c : CommonLent} {x : ListedLent} → ReadyAt c x → (m : ℕ) (row : Due) → Plain m x → RowAt row x.point.head x.point.table → RowFor m row x
row_made {c} {x} r m row (inl f) at e j l =
    let h = x.point.head in
    let k = get_or h 8 0 in
    let near = f.1 in
    let far = f.2 in
    let same : k / one.block_words ≡ (k + j) / one.block_words = omega arith in
    at (text-fits r, omega arith) ∙ row_same one (head_from h) x.point.table k (k + j) same
row_made {c} {x} r m row (inr z) at e j l = absurd (omega (arith, z.0, e))

module _ (c : CommonLent) (heads tables texts answers : List (List ℕ)) (lengths : Lengths (length heads) heads tables texts answers)
    (ready : AllReady c (length heads) (listed_at heads tables texts answers)) where
  pub all_known : (i : ℕ) → i < length heads → GoesAt answers i → is_known (get_or heads i []) ≡ true
  all_known i l g = is_known_lem (ready i l g)
