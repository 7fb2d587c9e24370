-- A block's use, by the maps of log blocks and of taken blocks; and the map of taken blocks, in which block 0 is set behind the chain.
use mathlib.Core.Path.{◌≡◌, refl, sym, ap, ap₂, ◌∙◌}
use mathlib.Core.Logic.{◌≢◌}
use mathlib.Core.List.{List, [], ◌∷◌}
use mathlib.Core.Bool.{Bool, true, false, ◌||◌, or-false, or_comm}
use Prim.Native.Nat.{ℕ, zero, suc, ◌+◌, ◌<◌}
use native.Mathlib.Omega.{arith}
use lib.Dec.{eqb}
use lib.ListN.{length, get_or, set, replicate}
use lib.Seq.{get_or-set_same, get_or-set_other}
use borrow.Author.Tests.{eq-eqb, ne_eqb, eqb-true}
use Rattle.words.proofs.Tests.{no_true}
use Rattle.words.specs.BlockMap.{taken, set_block, set_all, map_of}
use Rattle.words.specs.Logic.{member, list_from, any}
use Rattle.block_log.specs.Opening.{taken_at_opening}
use Rattle.words.proofs.BlockMap.{taken-set_block}
use Rattle.words.proofs.MapOf.{Below, Sound, sound-zeros, sound-set_all, sound-set_block, taken-set_all, taken-set_all-zero, map_is, in_map}
use Rattle.inspection.specs.declared.Use.{Use}
use Rattle.inspection.specs.declared.Use.TheVariants.{Free}
use Rattle.inspection.specs.Told.{use_number, use_numbers}
use Rattle.inspection.specs.Parts.{use_in, map_with}
use Rattle.inspection.specs.Reading.{use_of}
use Rattle.inspection.proofs.ReadOn.{with-member}

-- ---- a block's use, by its tests

module _ (logs map : List ℕ) where
  pub use-super : (b : ℕ) → b ≡ 0 → 0 ≡ use_in logs map b
  unfolding use_in
  use-super zero e = refl
  use-super (suc b) e = absurd (omega arith)

  pub use-log : (b : ℕ) → (b ≡ 0 → ⊥) → taken logs b ≡ true → 1 ≡ use_in logs map b
  unfolding use_in
  use-log zero ne l = absurd (ne refl)
  use-log (suc b) ne l = rw (l, use_in)

  pub use-live : (b : ℕ) → (b ≡ 0 → ⊥) → taken logs b ≡ false → taken map b ≡ true → 2 ≡ use_in logs map b
  unfolding use_in
  use-live zero ne l t = absurd (ne refl)
  use-live (suc b) ne l t = rw (l, t, use_in)

  pub use-free : (b : ℕ) → (b ≡ 0 → ⊥) → taken logs b ≡ false → taken map b ≡ false → 3 ≡ use_in logs map b
  unfolding use_in
  use-free zero ne l t = absurd (ne refl)
  use-free (suc b) ne l t = rw (l, t, use_in)

-- the same of the definition
module _ (table chain : List ℕ) where
  of-super : use_of table chain 0 ≡ 0
  unfolding use_of
  of-super = refl

  of-log : (b : ℕ) → member (suc b) chain ≡ true → use_of table chain (suc b) ≡ 1
  unfolding use_of
  of-log b e = rw (e, use_of)

  of_live : (b : ℕ) → member (suc b) chain ≡ false → member (suc b) table ≡ true → use_of table chain (suc b) ≡ 2
  unfolding use_of
  of_live b e f = rw (e, f, use_of)

  of-free : (b : ℕ) → member (suc b) chain ≡ false → member (suc b) table ≡ false → use_of table chain (suc b) ≡ 3
  unfolding use_of
  of-free b e f = rw (e, f, use_of)

-- uses that are right one by one
pub numbers-are : (us : List Use) (f : ℕ → ℕ) (b n : ℕ) → length us ≡ n → ((i : ℕ) → i < n → use_number (get_or us i Free) ≡ f (b + i))
    → use_numbers us ≡ list_from b n f
numbers-are [] f b zero l h = refl
numbers-are [] f b (suc n) l h = absurd (omega arith)
numbers-are (u ∷ us) f b zero l h = absurd (omega arith)
numbers-are (u ∷ us) f b (suc n) l h =
    let z : b + 0 ≡ b = omega arith in
    ap₂ (λ (x : ℕ) (xs : List ℕ). x ∷ xs) (h 0 (omega arith) ∙ ap f z)
    (numbers-are us f (suc b) n (omega arith) (λ i k. let e : b + suc i ≡ suc b + i = omega arith in h (suc i) (omega arith) ∙ ap f e))

-- one more
pub uses-on : (us : List Use) (f : ℕ → ℕ) (b : ℕ) (u : Use) → b < length us → ((i : ℕ) → i < b → use_number (get_or us i Free) ≡ f i) → use_number u ≡ f b
    → (i : ℕ) → i < b + 1 → use_number (get_or (set us b u) i Free) ≡ f i
uses-on us f b u h so_far e i l = go (eqb i b) refl
  where
    below : i < b + 1 → i ≢ b → i < b
    below h n = omega arith

    go : (t : Bool) → eqb i b ≡ t → use_number (get_or (set us b u) i Free) ≡ f i
    go true x = rw (eqb-true i b x, get_or-set_same us b u Free h) e
    go false x =
        let n : i ≢ b = λ z. no_true (eq-eqb i b z) x in
        rw (get_or-set_other us b i u Free n) (so_far i (below l n))

-- two functions that agree below a number give one list
pub same-list : (i n : ℕ) (f g : ℕ → ℕ) → ((k : ℕ) → k < i + n → f k ≡ g k) → list_from i n f ≡ list_from i n g
same-list i zero f g e = refl
same-list i (suc n) f g e = ap₂ (λ (x : ℕ) (xs : List ℕ). x ∷ xs) (e i (omega arith)) (same-list (suc i) n f g (λ k h. e k (omega arith)))

-- ---- the maps of a chain and a table

module _ (table chain : List ℕ) (tb : Below table) (cb : Below chain) where
  logs-sound : Sound (map_with chain)
  logs-sound = sound-set_all (replicate 16 0) chain cb sound-zeros

  base-sound : Sound (set_block true (map_with chain) 0)
  base-sound = sound-set_block (map_with chain) 0 (omega arith) logs-sound

  -- the map of taken blocks: the log blocks, block 0, the blocks of the table
  abbrev all : List ℕ
  all = set_all true (set_block true (map_with chain) 0) table

  all-some : (b : ℕ) → taken all (suc b) ≡ member (suc b) table || member (suc b) chain
  all-some b =
      taken-set_all (set_block true (map_with chain) 0) table b tb base-sound
      ∙ ap (λ (t : Bool). member (suc b) table || t)
      (taken-set_block (map_with chain) 0 (suc b) (in_map {b = 0} logs-sound (omega arith))
      ∙ ap₂ ◌||◌ (ne_eqb (suc b) 0 (λ e. omega arith)) (with-member chain b cb))

  all-zero : taken all 0 ≡ true
  all-zero =
      taken-set_all-zero (set_block true (map_with chain) 0) table tb base-sound ∙ taken-set_block (map_with chain) 0 0 (in_map {b = 0} logs-sound (omega arith))
      ∙ ap (λ (t : Bool). t || taken (map_with chain) 0) (eq-eqb 0 0 refl)

  all-taken : (b : ℕ) → taken all b ≡ taken_at_opening table chain b
  unfolding taken_at_opening any
  all-taken zero = all-zero
  all-taken (suc b) =
      all-some b ∙ or_comm (member (suc b) table) (member (suc b) chain)
      ∙ ap (λ (t : Bool). member (suc b) chain || t) (sym (or-false (member (suc b) table)))

  -- the map of taken blocks is that of the definitions
  pub map_read : set_all true (set_block true (map_with chain) 0) table ≡ map_of (taken_at_opening table chain)
  map_read = map_is all (taken_at_opening table chain) (sound-set_all (set_block true (map_with chain) 0) table tb base-sound) (λ b h. all-taken b)

  -- a block's use by the maps is its use by the definitions
  pub use-same : (b : ℕ) → use_in (map_with chain) (set_all true (set_block true (map_with chain) 0) table) b ≡ use_of table chain b
  use-same zero = sym (use-super (map_with chain) all 0 refl) ∙ sym (of-super table chain)
  use-same (suc b) = go (member (suc b) chain) refl (member (suc b) table) refl
    where
      some : suc b ≡ 0 → ⊥
      some e = omega arith

      go : (s : Bool) → member (suc b) chain ≡ s → (t : Bool) → member (suc b) table ≡ t → use_in (map_with chain) all (suc b) ≡ use_of table chain (suc b)
      go true e t f = sym (use-log (map_with chain) all (suc b) some (with-member chain b cb ∙ e)) ∙ sym (of-log table chain b e)
      go false e true f =
          sym (use-live (map_with chain) all (suc b) some (with-member chain b cb ∙ e) (all-some b ∙ rw (e, f))) ∙ sym (of_live table chain b e f)
      go false e false f =
          sym (use-free (map_with chain) all (suc b) some (with-member chain b cb ∙ e) (all-some b ∙ rw (e, f))) ∙ sym (of-free table chain b e f)

  pub uses-same : (n : ℕ) → list_from 0 n (use_in (map_with chain) (set_all true (set_block true (map_with chain) 0) table)) ≡ list_from 0 n (use_of table chain)
  uses-same n = same-list 0 n _ _ (λ k h. use-same k)
