-- The map that opening builds: 8 is a clash while it is built, and what comes out is the map of the definitions.
use mathlib.Core.Path.{◌≡◌, ◌∙◌, sym, refl, ap, ap₂}
use mathlib.Core.List.{List, [], ◌∷◌}
use mathlib.Core.Bool.{true, false, Bool, ◌||◌, or_assoc, or-false, or_comm}
use Prim.Native.Nat.{ℕ, zero, suc, ◌+◌, ◌≤◌, ◌<◌}
use native.Mathlib.Numerals.{add-one}
use native.Mathlib.Omega.{arith}
use lib.Dec.{eqb}
use lib.ListN.{length, get_or, drop, replicate, drop_of_length-le}
use lib.Seq.{drop-cons}
use borrow.Author.Tests.{eq-eqb, ne_eqb}
use Rattle.words.specs.BlockMap.{taken, set_block, set_all, map_of}
use Rattle.words.specs.Edition.{one}
use Rattle.words.specs.Logic.{some_of, any, member}
use Rattle.words.specs.Memory.{memory}
use Rattle.block_log.specs.Chain.{first_index, chain}
use Rattle.block_log.specs.Opening.{taken_at_opening}
use Rattle.block_log.specs.Parts.{clash, Takable}
use Rattle.block_log.specs.Replay.{live, repeated, shares_block}
use Rattle.words.proofs.BlockMap.{taken-set_block, set_all-one}
use Rattle.words.proofs.MapOf.{sound-zeros, zeros-free, sound-set_block, Below, sound-set_all, taken-set_all, taken-set_all-zero, Sound, map_is, in_map}
use Rattle.words.proofs.Tests.{eqb-sym}
use Rattle.block_log.proofs.Chain.{Positive, chain-positive, outside_below}

-- ---- one block after the other

pub clash-one : (map : List ℕ) (b : ℕ) (bs : List ℕ) → clash map (b ∷ bs) ≡ clash map (b ∷ []) || clash (set_all true map (b ∷ [])) bs
unfolding set_all clash
clash-one map zero bs = refl
clash-one map (suc b) bs = ap (λ (t : Bool). t || clash (set_block true map (suc b)) bs) (sym (or-false (taken map (suc b))))

pub one_none : (map : List ℕ) (b : ℕ) → b ≡ 0 → (map ≡ set_all true map (b ∷ [])) × (false ≡ clash map (b ∷ []))
unfolding set_all clash
one_none map zero e = (refl, refl)
one_none map (suc b) e = absurd (omega arith)

pub one-some :
    (map out : List ℕ) (b : ℕ) (t : Bool) → (b ≡ 0 → ⊥) → t ≡ taken map b → out ≡ set_block true map b
    → (out ≡ set_all true map (b ∷ [])) × (t ≡ clash map (b ∷ []))
unfolding set_all clash
one-some map out zero t ne et eo = absurd (ne refl)
one-some map out (suc b) t ne et eo = (eo, et ∙ sym (or-false (taken map (suc b))))

-- a pass over the table
module _ (table map out : List ℕ) (v : ℕ) (h : v < length table) (eo : out ≡ set_all true map (get_or table v 0 ∷ [])) where
  pub live-marks : set_all true map (drop v table) ≡ set_all true out (drop (v + 1) table)
  live-marks = rw (drop-cons table v 0 h, add-one, eo) (set_all-one map (get_or table v 0) (drop (suc v) table))

  pub live-clash :
      (met t both : Bool) → t ≡ clash map (get_or table v 0 ∷ []) → both ≡ met || t
      → met || clash map (drop v table) ≡ both || clash out (drop (v + 1) table)
  live-clash met t both et eb =
      rw (drop-cons table v 0 h, add-one, eo, eb, et)
      (ap (λ (z : Bool). met || z) (clash-one map (get_or table v 0) (drop (suc v) table))
      ∙ sym (or_assoc met (clash map (get_or table v 0 ∷ [])) (clash (set_all true map (get_or table v 0 ∷ [])) (drop (suc v) table))))

pub live_end :
    (table map : List ℕ) (v : ℕ) (met : Bool) → length table ≤ v
    → (set_all true map (drop v table) ≡ map) × (met || clash map (drop v table) ≡ met)
unfolding set_all clash
live_end table map v met h = rw (drop_of_length-le table h) (refl, or-false met)

-- ---- a clash

-- two pairs of tests, the middle ones changed about
middle : (a b c d : Bool) → (a || b) || (c || d) ≡ (a || c) || (b || d)
middle true b c d = refl
middle false true true d = refl
middle false true false d = refl
middle false false c d = refl

-- a block of the list, 0 aside, is taken in the map
unfoldable pub some_taken : List ℕ → List ℕ → Bool
some_taken map [] = false
some_taken map (zero ∷ bs) = some_taken map bs
some_taken map (suc b ∷ bs) = taken map (suc b) || some_taken map bs

some-set_block :
    (map : List ℕ) (b : ℕ) (xs : List ℕ) → b < 1023 → Sound map → some_taken (set_block true map (suc b)) xs ≡ member (suc b) xs || some_taken map xs
unfolding some_taken
some-set_block map b [] h s = refl
some-set_block map b (zero ∷ xs) h s = rw (ne_eqb (suc b) 0 (λ e. omega arith)) (some-set_block map b xs h s)
some-set_block map b (suc x ∷ xs) h s =
    ap₂ ◌||◌ (taken-set_block map (suc b) (suc x) (in_map s (omega arith))) (some-set_block map b xs h s)
    ∙ middle (eqb (suc x) (suc b)) (taken map (suc x)) (member (suc b) xs) (some_taken map xs)
    ∙ ap (λ (t : Bool). (t || member (suc b) xs) || (taken map (suc x) || some_taken map xs)) (eqb-sym (suc x) (suc b))

-- a clash is a block listed twice or one that was taken before
pub clash-is : (map xs : List ℕ) → Below xs → Sound map → clash map xs ≡ repeated xs || some_taken map xs
unfolding clash repeated some_taken
clash-is map [] h s = refl
clash-is map (zero ∷ xs) h s = clash-is map xs h.1 s
clash-is map (suc b ∷ xs) h s =
    ap (λ (t : Bool). taken map (suc b) || t)
    (clash-is (set_block true map (suc b)) xs h.1 (sound-set_block map (suc b) h.0 s)
    ∙ ap (λ (t : Bool). repeated xs || t) (some-set_block map b xs (omega arith) s))
    ∙ sym (or_assoc (taken map (suc b)) (repeated xs) (member (suc b) xs || some_taken map xs))
    ∙ ap (λ (t : Bool). t || (member (suc b) xs || some_taken map xs)) (or_comm (taken map (suc b)) (repeated xs))
    ∙ middle (repeated xs) (taken map (suc b)) (member (suc b) xs) (some_taken map xs)
    ∙ ap (λ (t : Bool). t || (taken map (suc b) || some_taken map xs)) (or_comm (repeated xs) (member (suc b) xs))

-- ---- a live block that is a log block

pub table_below : (xs : List ℕ) → ((v : ℕ) → get_or xs v 0 < 1024) → Below xs
table_below [] h = tt
table_below (x ∷ xs) h = (h 0, table_below xs (λ v. h (suc v)))

none-live : (cs : List ℕ) → some_of (live []) cs ≡ false
none-live [] = refl
none-live (zero ∷ cs) = none-live cs
none-live (suc c ∷ cs) = none-live cs

live_more : (x : ℕ) (xs cs : List ℕ) → Positive cs → some_of (live (x ∷ xs)) cs ≡ member x cs || some_of (live xs) cs
live_more x xs [] p = refl
live_more x xs (zero ∷ cs) p = absurd (p.0 refl)
live_more x xs (suc c ∷ cs) p =
    ap (λ (t : Bool). (eqb (suc c) x || member (suc c) xs) || t) (live_more x xs cs p.1)
    ∙ middle (eqb (suc c) x) (member (suc c) xs) (member x cs) (some_of (live xs) cs)
    ∙ ap (λ (t : Bool). (t || member x cs) || (member (suc c) xs || some_of (live xs) cs)) (eqb-sym (suc c) x)

zero-out : (cs : List ℕ) → Positive cs → member 0 cs ≡ false
zero-out [] p = refl
zero-out (zero ∷ cs) p = absurd (p.0 refl)
zero-out (suc c ∷ cs) p = rw (ne_eqb 0 (suc c) (λ e. omega arith)) (zero-out cs p.1)

-- block 0 and the log blocks
abbrev base : List ℕ → List ℕ
base cs = set_all true (set_block true (replicate 16 0) 0) cs

module _ (table cs : List ℕ) (tb : Below table) (cb : Below cs) (cp : Positive cs) where
  zero-sound : Sound (set_block true (replicate 16 0) 0)
  zero-sound = sound-set_block (replicate 16 0) 0 (omega arith) sound-zeros

  base-sound : Sound (base cs)
  base-sound = sound-set_all (set_block true (replicate 16 0) 0) cs cb zero-sound

  base-zero : taken (base cs) 0 ≡ true
  base-zero =
      taken-set_all-zero (set_block true (replicate 16 0) 0) cs cb zero-sound ∙ taken-set_block (replicate 16 0) 0 0 (in_map {b = 0} sound-zeros (omega arith))
      ∙ ap (λ (t : Bool). t || taken (replicate 16 0) 0) (eq-eqb 0 0 refl)

  base-taken : (b : ℕ) → taken (base cs) (suc b) ≡ member (suc b) cs
  base-taken b =
      taken-set_all (set_block true (replicate 16 0) 0) cs b cb zero-sound
      ∙ ap (λ (t : Bool). member (suc b) cs || t)
      (taken-set_block (replicate 16 0) 0 (suc b) (in_map {b = 0} sound-zeros (omega arith))
      ∙ ap₂ ◌||◌ (ne_eqb (suc b) 0 (λ e. omega arith)) (zeros-free (suc b)))
      ∙ or-false (member (suc b) cs)

  some_chain : (xs : List ℕ) → some_taken (base cs) xs ≡ some_of (live xs) cs
  unfolding some_taken
  some_chain [] = sym (none-live cs)
  some_chain (zero ∷ xs) = some_chain xs ∙ sym (live_more 0 xs cs cp ∙ ap (λ (t : Bool). t || some_of (live xs) cs) (zero-out cs cp))
  some_chain (suc b ∷ xs) = ap₂ ◌||◌ (base-taken b) (some_chain xs) ∙ sym (live_more (suc b) xs cs cp)

  -- 8
  pub clash-shares : clash (base cs) table ≡ shares_block table cs
  unfolding shares_block any
  clash-shares =
      clash-is (base cs) table tb base-sound ∙ ap (λ (t : Bool). repeated table || t) (some_chain table ∙ sym (or-false (some_of (live table) cs)))

  all-taken : (b : ℕ) → taken (set_all true (base cs) table) b ≡ taken_at_opening table cs b
  unfolding taken_at_opening any
  all-taken zero = taken-set_all-zero (base cs) table tb base-sound ∙ base-zero
  all-taken (suc b) =
      taken-set_all (base cs) table b tb base-sound ∙ ap (λ (t : Bool). member (suc b) table || t) (base-taken b)
      ∙ or_comm (member (suc b) table) (member (suc b) cs)
      ∙ ap (λ (t : Bool). member (suc b) cs || t) (sym (or-false (member (suc b) table)))

  -- the map
  pub map-opened : set_all true (base cs) table ≡ map_of (taken_at_opening table cs)
  map-opened = map_is (set_all true (base cs) table) (taken_at_opening table cs) (sound-set_all (base cs) table tb base-sound) (λ b h. all-taken b)

-- block 0, the chain and the table, one after the other
module _ (words table : List ℕ) (t : Takable words table) where
  abbrev cs : List ℕ
  cs = chain (memory one words)

  positive : Positive cs
  unfolding chain
  positive = chain-positive (memory one words) 64 (first_index (memory one words))

  module _ (map1 map2 map3 : List ℕ) (met : Bool) (e1 : map1 ≡ set_block true (replicate 16 0) 0) (e2 : map2 ≡ set_all true map1 cs) where
    base-is : map2 ≡ base cs
    base-is = e2 ∙ ap (λ (k : List ℕ). set_all true k cs) e1

    pub met-shares : met ≡ clash map2 table → met ≡ shares_block table cs
    met-shares e =
        e ∙ ap (λ (k : List ℕ). clash k table) base-is
        ∙ clash-shares table cs (table_below table t.fits.inside) (outside_below cs t.chained) positive

    pub map-taken : map3 ≡ set_all true map2 table → map3 ≡ map_of (taken_at_opening table cs)
    map-taken e =
        e ∙ ap (λ (k : List ℕ). set_all true k table) base-is
        ∙ map-opened table cs (table_below table t.fits.inside) (outside_below cs t.chained) positive
