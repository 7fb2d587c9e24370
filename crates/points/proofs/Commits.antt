-- Committing: the entry of a write that fits keeps the entry's rules, and the blocks that it replaces become free one after the other.
use Prim.Native.Nat.{ℕ, zero, suc, ◌+◌, ◌*◌, ◌-◌, ◌/◌, ◌%◌, ◌^◌, ◌≤◌, ◌<◌}
use native.Mathlib.Numerals.{add-one}
use native.Mathlib.Omega.{arith}
use mathlib.Core.Path.{◌≡◌, refl, sym, ap, ap₂, ◌∙◌}
use mathlib.Core.Bool.{Bool, true, false, ◌&&◌, ◌||◌}
use mathlib.Core.List.{List, [], ◌∷◌}
use lib.ListN.{length, get_or, drop, drop_of_length-le}
use lib.Seq.{drop-cons}
use lib.Dec.{ltb}
use borrow.Author.Tests.{lt-ltb, ltb-true}
use Rattle.words.specs.Edition.{Edition, block_bytes, file_end}
use Rattle.words.proofs.Sizes.{sized, split-byte}
use Rattle.words.specs.BlockMap.{set_block, set_all}
use Rattle.words.proofs.Logic.{agree}
use Rattle.block_log.specs.Entry.{entry_of, legal}
use Rattle.points.specs.declared.Write.{Write}
use Rattle.points.specs.declared.Head.{Head}
use Rattle.points.specs.Record.{run_first, run_blocks, first_edge, last_edge}
use Rattle.points.specs.Stepping.{entry_for}
use Rattle.block_log.proofs.Entry.{Valid, packed, valid-legal}
use Rattle.points.proofs.Spans.{lies}

-- ---- the entry

module _ (E : Edition) (blocks v b n u p : ℕ) (few : blocks ≤ 1024) (n-low : 1 ≤ n) (n-high : n ≤ 64) (u-low : 1 ≤ u) (u-high : u ≤ block_bytes E)
    (v-end : v + n ≤ 256) (b-low : 1 ≤ b) (b_end : b + n ≤ blocks) (point : p < 32) where
  rules : Valid E blocks (entry_of E v b n u p)
  rules =
      let k = packed E v b n u p (omega arith) (omega arith) (omega arith) (omega arith) point in
      record {
        count = rw k.is_count n-low;
        few = rw k.is_count n-high;
        used = rw k.is_used u-low;
        block = rw k.is_used u-high;
        top = k.no_top;
        virtual = rw (k.is_first, k.is_count) v-end;
        from = rw k.is_block b-low;
        inside = rw (k.is_block, k.is_count) b_end;
      }

  entry-legal : legal E blocks (entry_of E v b n u p) ≡ true
  entry-legal = valid-legal E blocks (entry_of E v b n u p) rules

-- the entry packed from the counted first block and blocks is the definition's: used bytes and point number fit their fields
pub entry_kept :
    (E : Edition) (h : Head) (v n : ℕ) → 1 ≤ h.write.size → h.number < 32 → v ≡ run_first E h.write → n ≡ run_blocks E h.write
    → let w = h.write in
    entry_of E v w.run n ((w.offset + w.size - block_bytes E * (v + n - 1)) % 2 ^ E.used_bits) (h.number % 32) ≡ entry_for E h
entry_kept E h v n some point is_first is_count =
    let w = h.write in
    let u = w.offset + w.size - block_bytes E * (run_first E w + run_blocks E w - 1) in
    let e : u % 2 ^ E.used_bits ≡ u = sized (λ W U. u ≤ 8 * W → u % 2 ^ U ≡ u) (omega arith) E (lies E w.offset w.size some).used_high in
    let f : h.number % 32 ≡ h.number = omega arith in
    rw (is_first, is_count, e, f)

pub entry-for-legal :
    (E : Edition) (blocks : ℕ) (h : Head) → 1 ≤ h.write.size → h.write.size ≤ 1024 → h.write.offset + h.write.size ≤ file_end E
    → 1 ≤ h.write.run
    → h.write.run + run_blocks E h.write ≤ blocks → blocks ≤ 1024 → h.number < 32 → legal E blocks (entry_for E h) ≡ true
entry-for-legal E blocks h some few ends low inside max point =
    let w = h.write in
    let l = lies E w.offset w.size some in
    entry-legal E blocks (w.offset / block_bytes E) w.run (run_blocks E w)
    (w.offset + w.size - block_bytes E * (w.offset / block_bytes E + run_blocks E w - 1))
    h.number max (omega arith) (omega (arith, l.few few)) l.used_low l.used_high (l.in_file ends) low inside point

-- ---- the edges

same-order : (a b c d : ℕ) → (a < b → c < d) → (c < d → a < b) → ltb a b ≡ ltb c d
same-order a b c d f g = agree (ltb a b) (ltb c d) (λ e. lt-ltb c d (f (ltb-true a b e))) (λ e. lt-ltb a b (g (ltb-true c d e)))

-- the end of a write in the file, and from its first block on
end-order : (E : Edition) (o t n : ℕ) → ltb (o % block_bytes E + t) (block_bytes E * n) ≡ ltb (o + t) (block_bytes E * (o / block_bytes E + n))
end-order E o t n =
    same-order (o % block_bytes E + t) (block_bytes E * n) (o + t) (block_bytes E * (o / block_bytes E + n))
    (sized (λ W U. o % (8 * W) + t < 8 * W * n → o + t < 8 * W * (o / (8 * W) + n)) (omega arith) E)
    (sized (λ W U. o + t < 8 * W * (o / (8 * W) + n) → o % (8 * W) + t < 8 * W * n) (omega arith) E)

module _ (E : Edition) (w : Write) where
  pub first_edge_lem : ltb 0 (w.offset % block_bytes E) || ltb (w.offset % block_bytes E + w.size) (block_bytes E) ≡ first_edge E w
  first_edge_lem =
      let split = split-byte E w.offset in
      let single : block_bytes E * 1 ≡ block_bytes E = omega arith in
      ap₂ (λ (s t : Bool). s || t)
      (same-order 0 (w.offset % block_bytes E) (block_bytes E * (w.offset / block_bytes E)) w.offset (λ h. omega arith) (λ h. omega arith))
      (rw single at (end-order E w.offset w.size 1))

  pub last-edge : (n : ℕ) → n ≡ run_blocks E w → ltb 1 n && ltb (w.offset % block_bytes E + w.size) (block_bytes E * n) ≡ last_edge E w
  last-edge n e = rw (← e) (ap (λ (t : Bool). ltb 1 n && t) (end-order E w.offset w.size n))

-- ---- the blocks replaced

pub free-none : (map : List ℕ) (b : ℕ) → b ≡ 0 → map ≡ set_all false map (b ∷ [])
unfolding set_all
free-none map b e = rw (e, set_all)

pub free_one : (map : List ℕ) (b : ℕ) → (b ≡ 0 → ⊥) → set_block false map b ≡ set_all false map (b ∷ [])
unfolding set_all
free_one map zero h = absurd (h refl)
free_one map (suc b) h = refl

-- one block of a list, then the others
pub free-cons : (map : List ℕ) (b : ℕ) (bs : List ℕ) → set_all false map (b ∷ bs) ≡ set_all false (set_all false map (b ∷ [])) bs
unfolding set_all
free-cons map zero bs = refl
free-cons map (suc b) bs = refl

-- what is left to free of a list, after one more, and at its end
pub freed-next :
    (start map more bs : List ℕ) (i : ℕ) → i < length bs → set_all false start bs ≡ set_all false map (drop i bs)
    → more ≡ set_all false map (get_or bs i 0 ∷ []) → set_all false start bs ≡ set_all false more (drop (i + 1) bs)
freed-next start map more bs i h inv e =
    inv ∙ rw (e, add-one) (ap (set_all false map) (drop-cons bs i 0 h) ∙ free-cons map (get_or bs i 0) (drop (suc i) bs))

pub freed-all :
    (start map bs : List ℕ) (i : ℕ) → length bs ≤ i → set_all false start bs ≡ set_all false map (drop i bs) → map ≡ set_all false start bs
unfolding set_all
freed-all start map bs i h inv = sym (inv ∙ ap (set_all false map) (drop_of_length-le bs {i = i} h))
