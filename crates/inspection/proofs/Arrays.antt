-- An array that is filled from its front: what lies in front of a place is the list so far, and from there on all is as it came.
use mathlib.Core.Path.{◌≡◌, refl, sym, ap, ap₂, ◌∙◌}
use mathlib.Core.List.{List, [], ◌∷◌, ◌++◌}
use Prim.Native.Nat.{ℕ, zero, suc, ◌+◌, ◌-◌, ◌≤◌, ◌<◌}
use native.Mathlib.Numerals.{add-one}
use native.Mathlib.Omega.{arith}
use lib.ListN.{length, take, drop, set, take-append-drop, length-take, length-drop, length-append}
use lib.Seq.{take-suc-set, drop-set-lt, drop-drop, length-take-le, take-take, drop-append-le, drop_at, take_at}

-- one element more
module _ (xs : List ℕ) (n v : ℕ) where
  pub front-on : n < length xs → take (n + 1) (set xs n v) ≡ take n xs ++ v ∷ []
  front-on h = rw add-one (take-suc-set xs n v h)

  pub rest-on : (ys : List ℕ) → drop n xs ≡ drop n ys → drop (n + 1) (set xs n v) ≡ drop (n + 1) ys
  rest-on ys e = drop-set-lt (n + 1) xs n v (omega arith) ∙ sym (drop-drop 1 n xs) ∙ ap (λ (l : List ℕ). drop 1 l) e ∙ drop-drop 1 n ys

-- the array is the list in its front, and what lay behind
pub front-is : (xs ys : List ℕ) (n : ℕ) → n ≤ length xs → drop n xs ≡ drop n ys → xs ≡ take n xs ++ drop (length (take n xs)) ys
front-is xs ys n h e = rw (length-take-le n xs h) (sym (take-append-drop n xs) ∙ ap (λ (l : List ℕ). take n xs ++ l) e)

-- the same for a part of it: from n to `at`
pub part-is : (before after : List ℕ) (n at : ℕ) → n ≤ at → take n after ≡ take n before → drop at after ≡ drop at before
    → after ≡ take n before ++ drop n (take at after) ++ drop at before
part-is before after n at h front rest =
    sym (take-append-drop at after)
    ∙ ap₂ (λ (k l : List ℕ). k ++ l)
    (sym (take-append-drop n (take at after)) ∙ ap (λ (l : List ℕ). l ++ drop n (take at after)) (take-take n at after h ∙ front)) rest

-- one element more in the part
pub part-on : (xs : List ℕ) (n at v : ℕ) → n ≤ at → at < length xs → drop n (take (at + 1) (set xs at v)) ≡ drop n (take at xs) ++ v ∷ []
part-on xs n at v h l =
    ap (λ (k : List ℕ). drop n k) (front-on xs at v l) ∙ drop-append-le n (take at xs) (v ∷ []) (omega (arith, length-take at xs))

-- a part laid behind the first n: the list in front is longer by it, and what lay behind is left
module _ (xs ys ps : List ℕ) (n to : ℕ) (h : n ≤ length xs) (e : to ≡ n + length ps) (laid : ys ≡ take n xs ++ ps ++ drop to xs) where
  long : length (take n xs ++ ps) ≡ to
  long = length-append (take n xs) ps ∙ omega (arith, length-take-le n xs h)

  pub laid-front : take to ys ≡ take n xs ++ ps
  laid-front = ap (λ (l : List ℕ). take to l) laid ∙ take_at (take n xs ++ ps) (drop to xs) to long

  pub laid-rest : drop to ys ≡ drop to xs
  laid-rest = ap (λ (l : List ℕ). drop to l) laid ∙ drop_at (take n xs ++ ps) (drop to xs) to long

  pub laid-length : to ≤ length xs → length ys ≡ length xs
  laid-length k = ap length laid ∙ length-append (take n xs ++ ps) (drop to xs) ∙ omega (arith, long, length-drop to xs)

-- what lies behind a place lies behind a later one
pub later : (xs ys : List ℕ) (n m : ℕ) → n ≤ m → drop n xs ≡ drop n ys → drop m xs ≡ drop m ys
later xs ys n m h e =
    let s : n + (m - n) ≡ m = omega arith in
    rw s at (sym (drop-drop (m - n) n xs) ∙ ap (λ (l : List ℕ). drop (m - n) l) e ∙ drop-drop (m - n) n ys)

-- an array that is filled from its end: one element more in front of the list
pub back_on : (xs : List ℕ) (j v : ℕ) → j < length xs → drop j (set xs j v) ≡ v ∷ drop (suc j) xs
back_on [] j v h = absurd (omega arith)
back_on (x ∷ xs) zero v h = refl
back_on (x ∷ xs) (suc j) v h = back_on xs j v (omega arith)
