-- Laws of replay. Assumes nothing.
use mathlib.Core.Path.{◌≡◌, refl, ◌∙◌}
use mathlib.Core.Logic.{◌⊎◌, inr, inl}
use mathlib.Core.List.{List, [], ◌∷◌, ◌++◌}
use mathlib.Core.Bool.{true, false, not}
use Prim.Native.Nat.{ℕ, zero, suc, ◌+◌, ◌≤◌, ◌<◌, ◌-◌, ◌/◌, ◌%◌}
use native.Mathlib.Numerals.{add-one}
use native.Mathlib.Omega.{arith}
use lib.ListN.{length, get_or, set, length-set, drop}
use lib.Seq.{get_or-set_other, get_or-set_same}
use borrow.Author.Tests.{not-false}
use Rattle.words.specs.Edition.{Edition, block_bytes}
use Rattle.words.specs.Logic.{is_zero, some_of, up_from, up_to_zero}
use Rattle.words.specs.Memory.{Memory, block_at, byte_in}
use Rattle.block_log.specs.Entry.{entry_v, entry_b, entry_n, legal}
use Rattle.block_log.specs.Opening.{bad_entry}
use Rattle.block_log.specs.Replay.{Mapped, map_run, replay_on, dirty_end, apply}
use Rattle.words.proofs.Logic.{or_left, or_right, up_to_zero-end, up_to_zero-next}
use Rattle.words.proofs.Tests.{is-zero, not-zero}

-- the replay of a log with another behind it
pub replay-append : (E : Edition) (f : Mapped) (es fs : List ℕ) → replay_on E f (es ++ fs) ≡ replay_on E (replay_on E f es) fs
unfolding replay_on
replay-append E f [] fs = refl
replay-append E f (e ∷ es) fs = replay-append E (apply E f e) es fs

-- the table keeps its length
pub length-map_run : (table : List ℕ) (v b n : ℕ) → length (map_run table v b n) ≡ length table
unfolding map_run
length-map_run table v b zero = refl
length-map_run table v b (suc n) = length-map_run (set table v b) (suc v) (suc b) n ∙ length-set table v b

pub length-table : (E : Edition) (f : Mapped) (es : List ℕ) → length (replay_on E f es).table ≡ length f.table
unfolding replay_on apply
length-table E f [] = refl
length-table E f (e ∷ es) = length-table E (apply E f e) es ∙ length-map_run f.table (entry_v e) (entry_b e) (entry_n e)

-- outside v to v + n - 1 the run changes nothing; inside, v + i is mapped to b + i
pub map_run-out : (T : List ℕ) (v b n x : ℕ) → (x < v) ⊎ (v + n ≤ x) → get_or (map_run T v b n) x 0 ≡ get_or T x 0
unfolding map_run
map_run-out T v b zero x h = refl
map_run-out T v b (suc n) x (inl h) = map_run-out (set T v b) (suc v) (suc b) n x (inl (omega arith)) ∙ get_or-set_other T v x b 0 (omega arith)
map_run-out T v b (suc n) x (inr h) = map_run-out (set T v b) (suc v) (suc b) n x (inr (omega arith)) ∙ get_or-set_other T v x b 0 (omega arith)

pub map_run-in : (T : List ℕ) (v b n i : ℕ) → v + n ≤ length T → i < n → get_or (map_run T v b n) (v + i) 0 ≡ b + i
unfolding map_run
map_run-in T v b zero i l h = absurd (omega arith)
map_run-in T v b (suc n) zero l h =
    let e : v + 0 ≡ v = omega arith in
    let f : b + 0 ≡ b = omega arith in
    rw (e, f) (map_run-out (set T v b) (suc v) (suc b) n v (inl (omega arith)) ∙ get_or-set_same T v b 0 (omega arith))
map_run-in T v b (suc n) (suc i) l h =
    let e : v + suc i ≡ suc v + i = omega arith in
    let f : b + suc i ≡ suc b + i = omega arith in
    rw (e, f) (map_run-in (set T v b) (suc v) (suc b) n i (rw length-set (omega arith)) (omega arith))

-- a run that is mapped block by block
pub map_run-next : (t : List ℕ) (v b n : ℕ) → 0 < n → map_run t v b n ≡ map_run (set t v b) (v + 1) (b + 1) (n - 1)
unfolding map_run
map_run-next t v b zero h = absurd (omega arith)
map_run-next t v b (suc n) h = let e : suc n - 1 ≡ n = omega arith in rw (add-one, e, add-one)

pub map_run-none : (t : List ℕ) (v b n : ℕ) → n ≤ 0 → map_run t v b n ≡ t
unfolding map_run
map_run-none t v b zero h = refl
map_run-none t v b (suc n) h = absurd (omega arith)

-- ---- the entries of a part, taken in one by one

module _ (E : Edition) (blocks : ℕ) (xs : List ℕ) (i : ℕ) (some : get_or xs i 0 ≡ 0 → ⊥) where
  pub next-legal : bad_entry E blocks (up_to_zero (drop i xs)) ≡ false → legal E blocks (get_or xs i 0) ≡ true
  unfolding bad_entry
  next-legal h = not-false _ (or_left _ _ (rw (up_to_zero-next xs i some) at h))

  pub next-good : bad_entry E blocks (up_to_zero (drop i xs)) ≡ false → bad_entry E blocks (up_to_zero (drop (i + 1) xs)) ≡ false
  unfolding bad_entry
  next-good h = or_right (not (legal E blocks (get_or xs i 0))) _ (rw (up_to_zero-next xs i some) at h)

  pub next-replay :
      (f g : Mapped) → g ≡ replay_on E f (get_or xs i 0 ∷ []) → replay_on E f (up_to_zero (drop i xs)) ≡ replay_on E g (up_to_zero (drop (i + 1) xs))
  unfolding replay_on
  next-replay f g e = rw (up_to_zero-next xs i some, e)

pub end-replay : (E : Edition) (f : Mapped) (xs : List ℕ) (i : ℕ) → get_or xs i 0 ≡ 0 → replay_on E f (up_to_zero (drop i xs)) ≡ f
unfolding replay_on
end-replay E f xs i h = rw (up_to_zero-end xs i h)

-- ---- 9

pub clean-empty : (E : Edition) (m : Memory) (table : List ℕ) (size : ℕ) → size ≡ 0 → dirty_end E m (record { table = table; size = size }) ≡ false
unfolding dirty_end
clean-empty E m table size e = rw (is-zero size e)

pub dirty-last :
    (E : Edition) (m : Memory) (table : List ℕ) (size v q : ℕ) → (size ≡ 0 → ⊥) → v ≡ (size - 1) / block_bytes E
    → q ≡ (size - 1) % block_bytes E
    → dirty_end E m (record { table = table; size = size })
    ≡ some_of (λ k. not (is_zero (byte_in (block_at m (get_or table v 0)) k))) (up_from (q + 1) (block_bytes E - (q + 1)))
unfolding dirty_end
dirty-last E m table size v q h is_block is_byte = rw (not-zero size h, is_block, is_byte)
