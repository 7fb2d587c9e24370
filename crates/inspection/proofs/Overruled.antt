-- The word of n bits, made from its top bit down; and the bits of overruled blocks, made from the last entry back with a map of the blocks that the later
-- entries cover.
use mathlib.Core.Path.{◌≡◌, refl, sym, ap, ◌∙◌, fun_ext}
use mathlib.Core.Logic.{inl, inr}
use mathlib.Core.List.{List, [], ◌∷◌, ◌++◌}
use mathlib.Core.Bool.{Bool, true, false, ◌||◌}
use Prim.Native.Nat.{ℕ, zero, suc, ◌+◌, ◌-◌, ◌*◌, ◌^◌, ◌≤◌, ◌<◌}
use native.Mathlib.Omega.{arith}
use lib.ListN.{length, get_or, drop, set, replicate, length-set, length-replicate, drop_of_length-le}
use lib.Pow.{pow-add, pow_mono}
use lib.Seq.{drop-cons}
use borrow.Author.Tests.{le-leb, lt-leb, lt-ltb, le-ltb}
use Rattle.words.specs.BlockMap.{taken, set_run, map_word}
use Rattle.words.specs.Logic.{one_if, some_of}
use Rattle.block_log.specs.Entry.{entry_v, entry_n, covers}
use Rattle.words.proofs.BlockMap.{run-view, length-set_run}
use Rattle.words.proofs.Paint.{paint, paint-in, paint-out, Painted, painted, inside, outside}
use Rattle.words.proofs.MapOf.{zeros-free}
use Rattle.inspection.specs.Reading.{overruled, overruled_all}
use Rattle.inspection.proofs.Arrays.{back_on}

-- ---- a word's bits

pub word_none : (p : ℕ → Bool) (b : ℕ) → map_word p b 0 ≡ 0
unfolding map_word
word_none p b = refl

word-suc : (p : ℕ → Bool) (b n : ℕ) → map_word p b (suc n) ≡ one_if (p b) + 2 * map_word p (suc b) n
unfolding map_word
word-suc p b n = refl

pub one-small : (x : Bool) → one_if x ≤ 1
one-small true = omega arith
one-small false = omega arith

pub word_lt : (p : ℕ → Bool) (b n : ℕ) → map_word p b n < 2 ^ n
word_lt p b zero = rw (word_none p b) (omega arith)
word_lt p b (suc n) =
    let d : 2 ^ suc n ≡ 2 * 2 ^ n = let e : suc n ≡ 1 + n = omega arith in rw (e, pow-add 2 1 n) in
    let h : map_word p (suc b) n < 2 ^ n = word_lt p (suc b) n in
    rw (word-suc p b n, d) (omega (arith, one-small (p b)))

-- a word of at most 63 bits has room for one more
pub word_fits : (p : ℕ → Bool) (b n : ℕ) → n ≤ 63 → map_word p b n < 9223372036854775808
word_fits p b n h = omega (arith, word_lt p b n, pow_mono {i = n} {j = 63} h)

-- one bit more below
module _ (p : ℕ → Bool) (v n i : ℕ) (h : i ≤ n) (low : 0 < i) where
  pub word_on : (w bit : ℕ) → w ≡ map_word p (v + i) (n - i) → bit ≡ one_if (p (v + (i - 1)))
      → 2 * w + bit ≡ map_word p (v + (i - 1)) (n - (i - 1))
  word_on w bit ew eb =
      let a : n - (i - 1) ≡ suc (n - i) = omega arith in
      let b : suc (v + (i - 1)) ≡ v + i = omega arith in
      rw (a, word-suc p (v + (i - 1)) (n - i), b, ew, eb) (omega arith)

-- ---- the blocks that later entries cover

-- the map of the blocks that these entries cover
abbrev pub Covered : List ℕ → List ℕ → Type 0
Covered map ws = (x : ℕ) → taken map x ≡ some_of (covers x) ws

pub covered_none : Covered (replicate 16 0) []
covered_none x = zeros-free x

pub covered-on : (map ws : List ℕ) (w : ℕ) → length map ≡ 16 → entry_v w + entry_n w ≤ 1024 → Covered map ws
    → Covered (set_run true map (entry_v w) (entry_n w)) (w ∷ ws)
covered-on map ws w l h e x = run-view true map (entry_v w) (entry_n w) l h x ∙ go (painted (entry_v w) (entry_n w) x)
  where
    go : Painted (entry_v w) (entry_n w) x → paint (taken map) (entry_v w) (entry_n w) (λ y. true) x ≡ covers x w || some_of (covers x) ws
    go (inside a b) = paint-in (taken map) (entry_v w) (entry_n w) _ x a b ∙ rw (le-leb (entry_v w) x a, lt-ltb x (entry_v w + entry_n w) b)
    go (outside (inl a)) = paint-out (taken map) (entry_v w) (entry_n w) _ x (inl a) ∙ e x ∙ rw (lt-leb (entry_v w) x a)
    go (outside (inr a)) =
        let b : entry_v w ≤ x = omega arith in
        paint-out (taken map) (entry_v w) (entry_n w) _ x (inr a) ∙ e x ∙ rw (le-leb (entry_v w) x b, le-ltb x (entry_v w + entry_n w) a)

-- ---- the bits of overruled blocks

pub overruled-none : overruled_all [] ≡ []
unfolding overruled_all
overruled-none = refl

pub overruled-on : (map ws : List ℕ) (w r : ℕ) → Covered map ws → r ≡ map_word (taken map) (entry_v w) (entry_n w)
    → overruled_all (w ∷ ws) ≡ r ∷ overruled_all ws
unfolding overruled_all overruled
overruled-on map ws w r e is =
    ap (λ (x : ℕ). x ∷ overruled_all ws) (sym (is ∙ ap (λ (p : ℕ → Bool). map_word p (entry_v w) (entry_n w)) (fun_ext e)))

pub length-overruled : (ws : List ℕ) → length (overruled_all ws) ≡ length ws
unfolding overruled_all
length-overruled [] = refl
length-overruled (w ∷ ws) = ap suc (length-overruled ws)

-- ---- the loop

-- from j on the marks are those of the entries, and the map has the blocks that these cover
pub record Marked (entries before marks later : List ℕ) (j : ℕ) : Type 0 where
  pub low : j ≤ length entries
  pub map : length later ≡ 16
  pub sized : length marks ≡ length before
  pub covered : Covered later (drop j entries)
  pub laid : drop j marks ≡ overruled_all (drop j entries) ++ drop (length entries) before

pub mark-begin : (entries before : List ℕ) → Marked entries before before (replicate 16 0) (length entries)
mark-begin entries before =
    let e : drop (length entries) entries ≡ [] = drop_of_length-le entries (omega arith) in
    record {
      low = omega arith;
      map = length-replicate {A = ℕ} 16 0;
      sized = refl;
      covered = rw e covered_none;
      laid = rw (e, overruled-none);
    }

module _ {entries before marks later : List ℕ} {j : ℕ} (m : Marked entries before marks later j) where
  pub mark-again : length entries ≤ length before → 0 < j → (r : ℕ) (map : List ℕ)
      → entry_v (get_or entries (j - 1) 0) + entry_n (get_or entries (j - 1) 0) ≤ 1024
      → r ≡ map_word (taken later) (entry_v (get_or entries (j - 1) 0)) (entry_n (get_or entries (j - 1) 0))
      → map ≡ set_run true later (entry_v (get_or entries (j - 1) 0)) (entry_n (get_or entries (j - 1) 0))
      → Marked entries before (set marks (j - 1) r) map (j - 1)
  mark-again lb pos r map h er em =
      let w = get_or entries (j - 1) 0 in
      let s : suc (j - 1) ≡ j = omega arith in
      let d : drop (j - 1) entries ≡ w ∷ drop j entries = drop-cons entries (j - 1) 0 (omega (arith, m.low)) ∙ rw s refl in
      record {
        low = omega (arith, m.low);
        map = ap length em ∙ length-set_run true later (entry_v w) (entry_n w) ∙ m.map;
        sized = length-set marks (j - 1) r ∙ m.sized;
        covered = rw (d, em) (covered-on later (drop j entries) w m.map h m.covered);
        laid =
            back_on marks (j - 1) r (omega (arith, m.sized, m.low))
            ∙ rw (s, m.laid, d, overruled-on later (drop j entries) w r m.covered er) refl;
      }

  pub mark-end : j ≤ 0 → marks ≡ overruled_all entries ++ drop (length (overruled_all entries)) before
  mark-end z =
      let e : j ≡ 0 = omega arith in
      rw (length-overruled entries) (rw e at m.laid)
