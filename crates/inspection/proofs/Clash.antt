-- The first virtual block whose block is shared. With a map of the log blocks and of the blocks passed so far the search is the definition's, block by
-- block; where 8 holds it ends inside the table, at a block that is not 0 and was met before.
use mathlib.Core.Path.{◌≡◌, refl, sym, ap, ap₂, ◌∙◌}
use mathlib.Core.Logic.{◌≢◌}
use mathlib.Core.Bool.{Bool, true, false, ◌||◌, ◌&&◌, not, or-false}
use mathlib.Core.List.{List, [], ◌∷◌}
use Prim.Native.Nat.{ℕ, zero, suc, ◌<◌}
use native.Mathlib.Omega.{arith}
use lib.Dec.{eqb}
use lib.ListN.{length, get_or, take, replicate}
use borrow.Author.Tests.{ne_eqb, not-true}
use Rattle.words.specs.BlockMap.{taken, set_block, set_all}
use Rattle.words.specs.Logic.{is_zero, member}
use Rattle.words.proofs.BlockMap.{taken-set_block}
use Rattle.words.proofs.Choice.{choose, choose-true, choose-false}
use Rattle.words.proofs.Logic.{and_left, and_right}
use Rattle.words.proofs.MapOf.{Sound, Below, sound-zeros, zeros-free, sound-set_block, sound-set_all, taken-set_all, in_map}
use Rattle.words.proofs.Tests.{nonzero, no_true}
use Rattle.block_log.specs.Parts.{clash}
use Rattle.block_log.specs.Replay.{shares_block}
use Rattle.block_log.proofs.Chain.{Positive}
use Rattle.block_log.proofs.Taken.{clash-shares}
use Rattle.inspection.specs.Faults.{first_shared}
use Rattle.inspection.specs.Parts.{first_clash, map_with}

-- ---- the map

-- the log blocks and the blocks passed are in the map; nothing is said of block 0
record Marks (map cs before : List ℕ) : Type 0 where
  sound : Sound map
  same : (c : ℕ) → taken map (suc c) ≡ member (suc c) cs || member (suc c) before

swap : (a b c : Bool) → a || (b || c) ≡ b || (a || c)
swap true true c = refl
swap true false c = refl
swap false b c = refl

marks-zero : {map cs before : List ℕ} → Marks map cs before → Marks map cs (0 ∷ before)
marks-zero {map} {cs} {before} k = record {
  sound = k.sound;
  same = λ c.
      k.same c ∙ ap (λ (t : Bool). member (suc c) cs || (t || member (suc c) before)) (sym (ne_eqb (suc c) 0 (λ e. omega arith)));
}

marks-suc : {map cs before : List ℕ} (b : ℕ) → suc b < 1024 → Marks map cs before → Marks (set_block true map (suc b)) cs (suc b ∷ before)
marks-suc {map} {cs} {before} b h k = record {
  sound = sound-set_block map (suc b) h k.sound;
  same = λ c.
      taken-set_block map (suc b) (suc c) (in_map k.sound h) ∙ ap (λ (t : Bool). eqb (suc c) (suc b) || t) (k.same c)
      ∙ swap (eqb (suc c) (suc b)) (member (suc c) cs) (member (suc c) before);
}

marks-all : (map cs : List ℕ) → Below cs → Sound map → ((c : ℕ) → taken map (suc c) ≡ false) → Marks (set_all true map cs) cs []
marks-all map cs h s free = record {
  sound = sound-set_all map cs h s;
  same = λ c. taken-set_all map cs c h s ∙ ap (λ (t : Bool). member (suc c) cs || t) (free c);
}

marks-with : (cs : List ℕ) → Below cs → Marks (map_with cs) cs []
marks-with cs h = marks-all (replicate 16 0) cs h sound-zeros (λ c. zeros-free (suc c))

-- opening's map has block 0 too
marks-base : (cs : List ℕ) → Below cs → Marks (set_all true (set_block true (replicate 16 0) 0) cs) cs []
marks-base cs h =
    marks-all (set_block true (replicate 16 0) 0) cs h (sound-set_block (replicate 16 0) 0 (omega arith) sound-zeros)
    (λ c. taken-set_block (replicate 16 0) 0 (suc c) (in_map {b = 0} sound-zeros (omega arith))
    ∙ ap₂ ◌||◌ (ne_eqb (suc c) 0 (λ e. omega arith)) (zeros-free (suc c)))

-- ---- the search

first-is : (map cs before xs : List ℕ) → Below xs → Marks map cs before → first_clash map xs ≡ first_shared cs before xs
unfolding first_clash first_shared set_all
first-is map cs before [] h k = refl
first-is map cs before (zero ∷ xs) h k = ap suc (first-is map cs (0 ∷ before) xs h.1 (marks-zero k))
first-is map cs before (suc b ∷ xs) h k =
    ap₂ (λ (t : Bool) (n : ℕ). choose t 0 (suc n)) (k.same b)
    (first-is (set_block true map (suc b)) cs (suc b ∷ before) xs h.1 (marks-suc b h.0 k))

-- a clash is found
clash-found : (map xs : List ℕ) → clash map xs ≡ true → first_clash map xs < length xs
unfolding clash first_clash set_all
clash-found map [] h = absurd (no_true h refl)
clash-found map (zero ∷ xs) h = omega (arith, clash-found map xs h)
clash-found map (suc b ∷ xs) h = go (taken map (suc b)) refl (λ e. clash-found (set_block true map (suc b)) xs e)
  where
    go :
        (t : Bool) → taken map (suc b) ≡ t
        → (clash (set_block true map (suc b)) xs ≡ true → first_clash (set_block true map (suc b)) xs < length xs)
        → first_clash map (suc b ∷ xs) < suc (length xs)
    go true e ih = omega (arith, choose-true (taken map (suc b)) 0 (suc (first_clash (set_block true map (suc b)) xs)) e)
    go false e ih =
        omega (arith, choose-false (taken map (suc b)) 0 (suc (first_clash (set_block true map (suc b)) xs)) e, ih (rw e at h))

-- ---- what it finds

turn : (a e p q : Bool) → a || ((e || p) || q) ≡ true → a || (p || (e || q)) ≡ true
turn true e p q h = refl
turn false true true q h = refl
turn false true false q h = refl
turn false false p q h = h

pub record Met (cs before xs : List ℕ) (v : ℕ) : Type 0 where
  pub some : get_or xs v 0 ≢ 0
  pub again : member (get_or xs v 0) cs || (member (get_or xs v 0) before || member (get_or xs v 0) (take v xs)) ≡ true

shared-met : (cs before xs : List ℕ) → first_shared cs before xs < length xs → Met cs before xs (first_shared cs before xs)
shared-met cs before [] h = absurd (omega arith)
shared-met cs before (x ∷ xs) h =
    go (not (is_zero x) && (member x cs || member x before)) refl (λ l. shared-met cs (x ∷ before) xs l)
  where
    go :
        (t : Bool) → not (is_zero x) && (member x cs || member x before) ≡ t
        → (first_shared cs (x ∷ before) xs < length xs → Met cs (x ∷ before) xs (first_shared cs (x ∷ before) xs))
        → Met cs before (x ∷ xs) (first_shared cs before (x ∷ xs))
    go true e ih =
        let z : first_shared cs before (x ∷ xs) ≡ 0 = unfold first_shared in (choose-true _ 0 (suc (first_shared cs (x ∷ before) xs)) e) in
        rw z (record {
          some = nonzero x (not-true (is_zero x) (and_left (not (is_zero x)) (member x cs || member x before) e));
          again = rw (or-false (member x before)) (and_right (not (is_zero x)) (member x cs || member x before) e);
        })
    go false e ih =
        let n = first_shared cs (x ∷ before) xs in
        let z : first_shared cs before (x ∷ xs) ≡ suc n = unfold first_shared in (choose-false _ 0 (suc (first_shared cs (x ∷ before) xs)) e) in
        let r = ih (omega (arith, h, z)) in
        let b = get_or xs n 0 in
        rw z (record { some = r.some; again = turn (member b cs) (eqb b x) (member b before) (member b (take n xs)) r.again })

-- ---- 8

module _ (cs table : List ℕ) (cb : Below cs) (tb : Below table) where
  pub with-taken : (b : ℕ) → b ≢ 0 → taken (map_with cs) b ≡ member b cs
  with-taken zero h = absurd (h refl)
  with-taken (suc c) h = (marks-with cs cb).same c ∙ or-false (member (suc c) cs)

  pub clash-first : first_clash (map_with cs) table ≡ first_shared cs [] table
  clash-first = first-is (map_with cs) cs [] table tb (marks-with cs cb)

  module _ (cp : Positive cs) (h : shares_block table cs ≡ true) where
    pub shared-in : first_shared cs [] table < length table
    shared-in =
        let base = set_all true (set_block true (replicate 16 0) 0) cs in
        rw (first-is base cs [] table tb (marks-base cs cb)) at (clash-found base table (clash-shares table cs tb cb cp ∙ h))

    pub shared-again : Met cs [] table (first_shared cs [] table)
    shared-again = shared-met cs [] table shared-in
