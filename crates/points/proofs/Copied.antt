-- A buffer into which n values of a function are put, from a place on, some at a time.
-- What is done and what is left to do are both `sets xs at (list_from i n f)`, so that a loop's invariant is one equation.
use Prim.Native.Nat.{ℕ, zero, suc, ◌+◌, ◌*◌, ◌-◌, ◌/◌, ◌%◌, ◌≤◌, ◌<◌}
use native.Mathlib.Omega.{arith}
use mathlib.Core.Path.{◌≡◌, refl, sym, ap, ap₂, ◌∙◌}
use mathlib.Core.List.{List, [], ◌∷◌, ◌++◌, append-nil, append_assoc}
use lib.ListN.{length, get_or, take, drop, set, take-append-drop, length-drop, drop_of_length-le, replicate}
use lib.Seq.{sets, sets-eq, length-sets, take-set-le, drop-set-add, get_or-take, get_or-drop, take_all, length-take-le, drop-drop}
use borrow.Rule.Slice.PartMut.{put_mid}
use mir.Syntax.{w64}
use Rattle.std.specs.Int.{to_le_bytes}
use Rattle.words.specs.Logic.{list_from}
use Rattle.words.specs.Word.{byte_of}
use Rattle.words.specs.Memory.{byte_in}
use Rattle.words.proofs.Logic.{length-list_from}

-- two functions that agree on n values give one list
pub list_from-same : (f g : ℕ → ℕ) (i j n : ℕ) → ((k : ℕ) → k < n → f (i + k) ≡ g (j + k)) → list_from i n f ≡ list_from j n g
list_from-same f g i j zero h = refl
list_from-same f g i j (suc n) h =
    let a : i + 0 ≡ i = omega arith in
    let b : j + 0 ≡ j = omega arith in
    let more : (k : ℕ) → k < n → f (suc i + k) ≡ g (suc j + k) =
    λ k l. let c : suc i + k ≡ i + suc k = omega arith in let d : suc j + k ≡ j + suc k = omega arith in rw (c, d) (h (suc k) (omega arith)) in
    ap₂ (λ (x : ℕ) (xs : List ℕ). x ∷ xs) (rw (a, b) at (h 0 (omega arith))) (list_from-same f g (suc i) (suc j) n more)

module _ (f : ℕ → ℕ) where
  -- m values, then n more
  sets_more : (xs : List ℕ) (at i m n : ℕ) → sets xs at (list_from i (m + n) f) ≡ sets (sets xs at (list_from i m f)) (at + m) (list_from (i + m) n f)
  sets_more xs at i zero n =
      let a : at + 0 ≡ at = omega arith in
      let b : i + 0 ≡ i = omega arith in
      let c : 0 + n ≡ n = omega arith in
      rw (a, b, c)
  sets_more xs at i (suc m) n =
      let a : at + suc m ≡ suc at + m = omega arith in
      let b : i + suc m ≡ suc i + m = omega arith in
      let c : suc m + n ≡ suc (m + n) = omega arith in
      rw (a, b, c) (sets_more (set xs at (f i)) (suc at) (suc i) m n)

  -- three copies, one behind the other, are one
  pub sets-three :
      (xs ys zs us : List ℕ) (at i h m r n : ℕ) → h + m + r ≡ n
      → ys ≡ sets xs at (list_from i h f) → zs ≡ sets ys (at + h) (list_from (i + h) m f) → us ≡ sets zs (at + h + m) (list_from (i + h + m) r f)
      → us ≡ sets xs at (list_from i n f)
  sets-three xs ys zs us at i h m r n s a b c =
      let t : h + (m + r) ≡ n = omega arith in
      rw (c, b, a, ← t) (sym (sets_more xs at i h (m + r) ∙ sets_more (sets xs at (list_from i h f)) (at + h) (i + h) m r))

  -- from the buffer's front
  pub sets-front : (xs : List ℕ) (i n : ℕ) → n ≤ length xs → sets xs 0 (list_from i n f) ≡ list_from i n f ++ drop n xs
  sets-front xs i n h =
      let l : length (list_from i n f) ≡ n = length-list_from i n f in
      let z : 0 + n ≡ n = omega arith in
      sets-eq (list_from i n f) xs 0 (omega arith) ∙ rw (l, z)

-- k of the n values f i, f (i + 1), .. are put into xs₀ from `at` on, which gave xs
pub record Copied (f : ℕ → ℕ) (xs₀ : List ℕ) (at i n : ℕ) (xs : List ℕ) (k : ℕ) : Type 0 where
  pub inside : k ≤ n
  pub same : length xs ≡ length xs₀
  pub left : sets xs₀ at (list_from i n f) ≡ sets xs (at + k) (list_from (i + k) (n - k) f)

module _ (f : ℕ → ℕ) (xs₀ : List ℕ) (at i n : ℕ) where
  pub copied_none : Copied f xs₀ at i n xs₀ 0
  copied_none =
      let a : at + 0 ≡ at = omega arith in
      let b : i + 0 ≡ i = omega arith in
      let c : n - 0 ≡ n = omega arith in
      record { inside = omega arith; same = refl; left = rw (a, b, c) }

  module _ (xs : List ℕ) (k : ℕ) (now : Copied f xs₀ at i n xs k) where
    -- m more
    pub copied_more : (ys : List ℕ) (m : ℕ) → k + m ≤ n → ys ≡ sets xs (at + k) (list_from (i + k) m f) → Copied f xs₀ at i n ys (k + m)
    copied_more ys m h e =
        let a : at + (k + m) ≡ at + k + m = omega arith in
        let b : i + (k + m) ≡ i + k + m = omega arith in
        let c : n - k ≡ m + (n - (k + m)) = omega arith in
        record {
          inside = h;
          same = ap length e ∙ length-sets xs (at + k) (list_from (i + k) m f) ∙ now.same;
          left = now.left ∙ rw (a, b, c, e) (sets_more f xs (at + k) (i + k) m (n - (k + m)));
        }

    pub copied_all : n ≤ k → xs ≡ sets xs₀ at (list_from i n f)
    copied_all h = let c : n - k ≡ 0 = omega arith in sym (rw c at now.left)

-- the eight bytes of word i are the bytes from 8 i on
pub word_bytes : (part : List ℕ) (i : ℕ) → list_from 0 8 (byte_of (get_or part i 0)) ≡ list_from (8 * i) 8 (byte_in part)
word_bytes part i =
    list_from-same (byte_of (get_or part i 0)) (byte_in part) 0 (8 * i) 8
    (λ k l. let q : (8 * i + k) / 8 ≡ i = omega arith in let r : (8 * i + k) % 8 ≡ k = omega arith in let z : 0 + k ≡ k = omega arith in rw (q, r, z))

-- bytes stored in the part from a on
part-sets : (a : ℕ) (xs : List ℕ) (pos : ℕ) (vs : List ℕ) → take a xs ++ sets (drop a xs) pos vs ≡ sets xs (a + pos) vs
part-sets a xs pos [] = take-append-drop a xs
part-sets a xs pos (v ∷ vs) =
    let on : a + suc pos ≡ suc (a + pos) = omega arith in
    let front : take a xs ≡ take a (set xs (a + pos) v) = sym (take-set-le a xs (a + pos) v (omega arith)) in
    rw (front, ← drop-set-add a xs pos v) (part-sets a (set xs (a + pos) v) (suc pos) vs ∙ rw on)

-- the bytes of w words of a part from word i on
bytes-lent : (part : List ℕ) (i w : ℕ) → list_from 0 (8 * w) (byte_in (take w (drop i part))) ≡ list_from (8 * i) (8 * w) (byte_in part)
bytes-lent part i w =
    list_from-same (byte_in (take w (drop i part))) (byte_in part) 0 (8 * i) (8 * w)
    (λ k l. let z : 0 + k ≡ k = omega arith in
    let q : (8 * i + k) / 8 ≡ i + k / 8 = omega arith in
    let r : (8 * i + k) % 8 ≡ k % 8 = omega arith in
    rw (z, q, r, get_or-take w (drop i part) (k / 8) 0 (omega arith), get_or-drop i part (k / 8) 0))

-- whole words from a byte on, where that is a word's first byte or there are none
words-aligned : (f : ℕ → ℕ) (p i w : ℕ) → (0 < w → 8 * i ≡ p) → list_from (8 * i) (8 * w) f ≡ list_from p (8 * w) f
words-aligned f p i zero h = refl
words-aligned f p i (suc w) h = let e : 8 * i ≡ p = h (omega arith) in rw e

-- w words of a part from word i on, and a buffer from a on, both lent: as the borrow lends them
module _ (part xs : List ℕ) (a i w n : ℕ) (inside : i + w ≤ length part) (same : w ≡ n) where
  lent-words : length (take n (drop i part)) ≡ w
  lent-words = length-take-le n (drop i part) (omega (arith, length-drop i part)) ∙ sym same

  lent-whole : take (length xs - a) (drop a xs) ≡ drop a xs
  lent-whole = take_all (length xs - a) (drop a xs) (omega (arith, length-drop a xs))

  -- the words have room there
  pub words-fit : a + 8 * w ≤ length xs → 8 * length (take n (drop i part)) ≤ length (take (length xs - a) (drop a xs))
  words-fit h = rw (lent-words, lent-whole) (omega (arith, length-drop a xs))

  -- put into the buffer's front, they are the bytes from p on, from a on in the whole buffer
  pub words-lent :
      (ys : List ℕ) (p : ℕ) → (0 < w → 8 * i ≡ p)
      → ys ≡ sets (take (length xs - a) (drop a xs)) 0 (list_from 0 (8 * length (take n (drop i part))) (byte_in (take n (drop i part))))
      → take a xs ++ (ys ++ drop (length xs - a) (drop a xs)) ≡ sets xs a (list_from p (8 * w) (byte_in part))
  words-lent ys p aligned e =
      let none : drop (length xs - a) (drop a xs) ≡ [] = drop_of_length-le (drop a xs) {i = length xs - a} (omega (arith, length-drop a xs)) in
      let z : a + 0 ≡ a = omega arith in
      rw (none, append-nil ys, e, lent-whole, lent-words, ← same)
      (part-sets a xs 0 (list_from 0 (8 * w) (byte_in (take w (drop i part))))
      ∙ rw z (ap (sets xs a) (bytes-lent part i w ∙ words-aligned (byte_in part) p i w aligned)))

-- a part that is written whole
pub part-put : (at k : ℕ) (xs ys : List ℕ) → length ys ≡ k → at + k ≤ length xs → put_mid at k xs ys ≡ sets xs at ys
part-put at k xs ys l h =
    rw (drop-drop, ← l) (sym (sets-eq ys xs at (omega arith) ∙ append_assoc (take at xs) ys (drop (at + length ys) xs)))

pub part-length : (at k : ℕ) (xs : List ℕ) → at + k ≤ length xs → length (take k (drop at xs)) ≡ k
part-length at k xs h = length-take-le k (drop at xs) (omega (arith, length-drop at xs))

pub zeros-list : (n i : ℕ) → replicate {A = ℕ} n 0 ≡ list_from i n (λ _. 0)
zeros-list zero i = refl
zeros-list (suc n) i = ap (λ (xs : List ℕ). 0 ∷ xs) (zeros-list n (suc i))

-- a word's bytes, lowest first
pub low_bytes : (w : ℕ) → to_le_bytes w64 w ≡ list_from 0 8 (byte_of w)
low_bytes w = let e : w / 1 ≡ w = omega arith in rw e
