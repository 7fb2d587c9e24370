-- Reading the chain: the map of the log blocks read so far answers whether an index was read already.
use mathlib.Core.Path.{◌≡◌, refl, sym, ap, ◌∙◌}
use mathlib.Core.Logic.{◌≢◌}
use mathlib.Core.List.{List, [], ◌∷◌, ◌++◌}
use mathlib.Core.Bool.{Bool, true, false, ◌||◌, or-false}
use Prim.Native.Nat.{ℕ, zero, suc, ◌+◌, ◌-◌, ◌≤◌, ◌<◌}
use native.Mathlib.Omega.{arith}
use lib.ListN.{length, get_or, take, drop, set, replicate, length-set, length-replicate}
use lib.Seq.{length-take-le, set-get_or}
use borrow.Author.Tests.{le-leb, lt-leb, leb-false}
use Rattle.words.specs.BlockMap.{taken, set_block, set_all}
use Rattle.words.specs.Edition.{one}
use Rattle.words.specs.Logic.{is_zero, any, member}
use Rattle.words.specs.Memory.{Memory, memory}
use Rattle.block_log.specs.Chain.{first_index, next_index, outside}
use Rattle.words.proofs.Logic.{any_none}
use Rattle.words.proofs.BlockMap.{length-set_all}
use Rattle.words.proofs.MapOf.{Below, taken-set_all, sound-zeros, zeros-free}
use Rattle.words.proofs.Tests.{is-zero, not-zero, nonzero}
use Rattle.block_log.proofs.Taken.{one-some}
use Rattle.inspection.specs.Parts.{stops_in, map_with, ReadsChain}
use Rattle.inspection.specs.Reading.{stops_at, read_on, read_chain}
use Rattle.inspection.proofs.Arrays.{front-on, rest-on, front-is}

-- ---- the test, by its parts

module _ (blocks : ℕ) (map : List ℕ) (b : ℕ) where
  pub stops-zero : b ≡ 0 → true ≡ stops_in blocks map b
  unfolding any
  stops-zero e = rw (is-zero b e)

  pub stops-outside : (b ≡ 0 → ⊥) → blocks ≤ b → true ≡ stops_in blocks map b
  unfolding any
  stops-outside ne h = rw (not-zero b ne, le-leb blocks b h)

  pub stops-read : (b ≡ 0 → ⊥) → b < blocks → taken map b ≡ stops_in blocks map b
  unfolding any
  stops-read ne h = rw (not-zero b ne, lt-leb blocks b h) (sym (or-false (taken map b)))

  pub goes_on : stops_in blocks map b ≡ false → (b ≢ 0) × (b < blocks)
  goes_on h = let t = any_none (is_zero b ∷ outside blocks b ∷ taken map b ∷ []) h in (nonzero b t.0, leb-false blocks b t.1.0)

-- ---- a turn

pub below-append : (xs : List ℕ) (b : ℕ) → Below xs → b < 1024 → Below (xs ++ b ∷ [])
below-append [] b h k = (k, tt)
below-append (x ∷ xs) b h k = (h.0, below-append xs b h.1 k)

pub set_all-snoc : (map xs : List ℕ) (b : ℕ) → set_all true map (xs ++ b ∷ []) ≡ set_all true (set_all true map xs) (b ∷ [])
unfolding set_all
set_all-snoc map [] b = refl
set_all-snoc map (zero ∷ xs) b = set_all-snoc map xs b
set_all-snoc map (suc x ∷ xs) b = set_all-snoc (set_block true map (suc x)) xs b

-- a block of the map is one of the list
pub with-member : (xs : List ℕ) (c : ℕ) → Below xs → taken (map_with xs) (suc c) ≡ member (suc c) xs
with-member xs c h =
    taken-set_all (replicate 16 0) xs c h sound-zeros ∙ ap (λ (t : Bool). member (suc c) xs || t) (zeros-free (suc c)) ∙ or-false (member (suc c) xs)

pub stops_same : (blocks : ℕ) (seen : List ℕ) (b : ℕ) → Below seen → stops_in blocks (map_with seen) b ≡ stops_at blocks seen b
unfolding any
stops_same blocks seen zero h = refl
stops_same blocks seen (suc c) h = rw (with-member seen c h)

module _ (blocks : ℕ) (m : Memory) (seen : List ℕ) (b : ℕ) where
  pub read_none : (n : ℕ) → n ≤ 0 → read_on blocks m n seen b ≡ seen
  unfolding read_on
  read_none zero h = refl
  read_none (suc n) h = absurd (omega arith)

  pub read-stops : (n : ℕ) → stops_at blocks seen b ≡ true → read_on blocks m n seen b ≡ seen
  unfolding read_on
  read-stops zero h = refl
  read-stops (suc n) h = rw (h, read_on)

  read-suc : (n : ℕ) → stops_at blocks seen b ≡ false → read_on blocks m (suc n) seen b ≡ read_on blocks m n (seen ++ b ∷ []) (next_index m b)
  unfolding read_on
  read-suc n h = rw (h, read_on)

  -- one more, with c read so far
  pub read_next : (c : ℕ) → c < 64 → stops_at blocks seen b ≡ false
      → read_on blocks m (64 - c) seen b ≡ read_on blocks m (64 - (c + 1)) (seen ++ b ∷ []) (next_index m b)
  read_next c l h = let e : 64 - c ≡ suc (64 - (c + 1)) = omega arith in rw e (read-suc (64 - (c + 1)) h)

-- ---- the loop

-- so many log blocks are read: they lie in front of the array and are in the map, and what is read from b on, behind them, is the chain
pub record Read (words : List ℕ) (blocks : ℕ) (before chain map : List ℕ) (b count : ℕ) : Type 0 where
  pub few : count ≤ 64
  pub sized : length chain ≡ 64
  pub rest : drop count chain ≡ drop count before
  pub below : Below (take count chain)
  pub marked : map ≡ map_with (take count chain)
  pub on : read_chain blocks (memory one words) ≡ read_on blocks (memory one words) (64 - count) (take count chain) b

pub read-begin : (words : List ℕ) (blocks : ℕ) (before : List ℕ) (b : ℕ) → length before ≡ 64 → b ≡ first_index (memory one words)
    → Read words blocks before before (replicate 16 0) b 0
unfolding read_chain set_all
read-begin words blocks before b l e = record {
  few = omega arith;
  sized = l;
  rest = refl;
  below = tt;
  marked = refl;
  on = rw e;
}

module _ {words : List ℕ} {blocks : ℕ} {before chain map : List ℕ} {b count : ℕ} (r : Read words blocks before chain map b count) where
  pub map-sized : length map ≡ 16
  map-sized = ap length r.marked ∙ length-set_all true (replicate 16 0) (take count chain) ∙ length-replicate {A = ℕ} 16 0

  -- what was read is the chain
  ends : read_chain blocks (memory one words) ≡ take count chain → ReadsChain words blocks before chain count map
  ends e =
      let h : count ≤ length chain = omega (arith, r.sized, r.few) in
      record { front = rw e (front-is chain before count h r.rest); count = rw e (sym (length-take-le count chain h)); map = rw e r.marked }

  pub ends-full : 64 ≤ count → ReadsChain words blocks before chain count map
  ends-full h = ends (r.on ∙ read_none blocks (memory one words) (take count chain) b (64 - count) (omega arith))

  module _ {t : Bool} (test : t ≡ stops_in blocks map b) where
    same : stops_at blocks (take count chain) b ≡ t
    same = sym (test ∙ ap (λ (k : List ℕ). stops_in blocks k b) r.marked ∙ stops_same blocks (take count chain) b r.below)

    pub ends-stopped : t ≡ true → ReadsChain words blocks before chain count map
    ends-stopped h = ends (r.on ∙ read-stops blocks (memory one words) (take count chain) b (64 - count) (same ∙ h))

    pub index-inside : t ≡ false → (b ≢ 0) × (b < blocks)
    index-inside h = goes_on blocks map b (sym test ∙ h)

    pub read_again : blocks ≤ 1024 → count < 64 → t ≡ false → (map₁ : List ℕ) (b₁ : ℕ) → map₁ ≡ set_block true map b → b₁ ≡ next_index (memory one words) b
        → Read words blocks before (set chain count b) map₁ b₁ (count + 1)
    read_again most l h map₁ b₁ em eb =
        let w = index-inside h in
        let f : take (count + 1) (set chain count b) ≡ take count chain ++ b ∷ [] = front-on chain count b (omega (arith, r.sized)) in
        record {
          few = omega arith;
          sized = length-set chain count b ∙ r.sized;
          rest = rest-on chain count b before r.rest;
          below = rw f (below-append (take count chain) b r.below (omega (arith, w.1)));
          marked =
              (one-some (map_with (take count chain)) map₁ b _ w.0 refl (em ∙ ap (λ (k : List ℕ). set_block true k b) r.marked)).0
              ∙ sym (rw f (set_all-snoc (replicate 16 0) (take count chain) b));
          on = rw (f, eb) (r.on ∙ read_next blocks (memory one words) (take count chain) b count l (same ∙ h));
        }

-- an element put back where it stood changes nothing
pub reads-kept : {words : List ℕ} {blocks : ℕ} {before chain map : List ℕ} {n : ℕ} (i : ℕ) → ReadsChain words blocks before chain n map
    → ReadsChain words blocks before (set chain i (get_or chain i 0)) n map
reads-kept {chain = chain} i r = rw (set-get_or chain i 0) r
