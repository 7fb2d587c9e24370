-- Reasons 6 and 8 of opening as facts, both ways, 7 one way: the slots of a log block, an entry's rules, a table without a block twice.
-- Opening's proofs use 6 and 8 in one direction for an image that opens, in the other for the invariant; 7 is for logs that opening accepts.
use mathlib.Core.Path.{◌≡◌, refl, sym}
use mathlib.Core.Logic.{◌≢◌}
use mathlib.Core.List.{List, [], ◌∷◌}
use mathlib.Core.Bool.{Bool, true, false, ◌&&◌, not}
use Prim.Native.Nat.{ℕ, zero, suc, ◌<◌}
use native.Mathlib.Omega.{arith}
use lib.Dec.{ltb}
use lib.ListN.{length, get_or, drop}
use borrow.Author.Tests.{le-ltb, ltb-false, not-false}
use Rattle.words.specs.Edition.{Edition}
use Rattle.words.specs.Logic.{is_zero, some_of, all_of, up_to_zero, member}
use Rattle.block_log.specs.Chain.{slots, bad_log_block}
use Rattle.block_log.specs.Entry.{legal}
use Rattle.block_log.specs.Opening.{bad_entry}
use Rattle.block_log.specs.Replay.{repeated}
use Rattle.words.proofs.Logic.{none_any, or_left, or_right, and_both, up_to_zero-le, AllFalse, any_none}
use Rattle.words.proofs.Tests.{zero_is, is-zero, not-zero, not-of, not-member}

-- the slots of a log block that 6 takes
pub record Good (l : List ℕ) (following : ℕ) : Type 0 where
  pub zeros : all_of is_zero (drop (length (up_to_zero l)) l) ≡ true
  pub full : following ≢ 0 → length (up_to_zero l) ≡ length l

pub good-block : (block : List ℕ) → get_or block 1 0 ≡ 0 → Good (slots block) (get_or block 0 0) → bad_log_block block ≡ false
unfolding bad_log_block
good-block block z g = none_any _ (not-of _ (is-zero _ z), (not-of _ g.zeros, (go (get_or block 0 0) refl, tt)))
  where
    go : (n : ℕ) → get_or block 0 0 ≡ n → not (is_zero (get_or block 0 0)) && ltb (length (up_to_zero (slots block))) (length (slots block)) ≡ false
    go zero e = rw e
    go (suc n) e =
        rw (
          not-zero (get_or block 0 0) (rw e (omega arith)),
          le-ltb (length (up_to_zero (slots block))) (length (slots block)) (omega (arith, g.full (rw e (omega arith)))),
        )

-- 6, the other way
tests : (block : List ℕ) → bad_log_block block ≡ false
    → AllFalse (not (is_zero (get_or block 1 0)) ∷ not (all_of is_zero (drop (length (up_to_zero (slots block))) (slots block)))
    ∷ (not (is_zero (get_or block 0 0)) && ltb (length (up_to_zero (slots block))) (length (slots block))) ∷ [])
unfolding bad_log_block
tests block e = any_none _ e

pub block-second : (block : List ℕ) → bad_log_block block ≡ false → get_or block 1 0 ≡ 0
block-second block e = zero_is (get_or block 1 0) (not-false (is_zero (get_or block 1 0)) (tests block e).0)

pub block-good : (block : List ℕ) → bad_log_block block ≡ false → Good (slots block) (get_or block 0 0)
block-good block e = record {
  zeros = not-false (all_of is_zero (drop (length (up_to_zero (slots block))) (slots block))) (tests block e).1.0;
  full = λ n. go (get_or block 0 0) n (tests block e).1.1.0;
}
  where
    go :
        (x : ℕ) → x ≢ 0 → not (is_zero x) && ltb (length (up_to_zero (slots block))) (length (slots block)) ≡ false
        → length (up_to_zero (slots block)) ≡ length (slots block)
    go zero n f = absurd (n refl)
    go (suc x) n f = omega (arith, ltb-false (length (up_to_zero (slots block))) (length (slots block)) f, up_to_zero-le (slots block))

-- 7: where no entry is bad, all are legal
pub entries-legal : (E : Edition) (blocks : ℕ) (es : List ℕ) → bad_entry E blocks es ≡ false → all_of (legal E blocks) es ≡ true
unfolding bad_entry
entries-legal E blocks [] h = refl
entries-legal E blocks (e ∷ es) h =
    let p : ℕ → Bool = λ w. not (legal E blocks w) in
    and_both (legal E blocks e) (all_of (legal E blocks) es) (not-false (legal E blocks e) (or_left (p e) (some_of p es) h))
    (entries-legal E blocks es (or_right (p e) (some_of p es) h))

pub not-repeated :
    (l : List ℕ) → ((i j : ℕ) → i < length l → j < length l → get_or l i 0 ≢ 0 → get_or l i 0 ≡ get_or l j 0 → i ≡ j) → repeated l ≡ false
unfolding repeated
not-repeated [] h = refl
not-repeated (zero ∷ xs) h = not-repeated xs (λ i j a b n e. let x = h (suc i) (suc j) (omega arith) (omega arith) n e in omega arith)
not-repeated (suc x ∷ xs) h =
    rw (not-member (suc x) xs (λ i l e. let y = h 0 (suc i) (omega arith) (omega arith) (omega arith) (sym e) in omega arith))
    (not-repeated xs (λ i j a b n e. let y = h (suc i) (suc j) (omega arith) (omega arith) n e in omega arith))

pub repeated-rest : (x : ℕ) (xs : List ℕ) → repeated (x ∷ xs) ≡ false → repeated xs ≡ false
unfolding repeated
repeated-rest zero xs e = e
repeated-rest (suc x) xs e = or_right (member (suc x) xs) (repeated xs) e

pub repeated-head : (x : ℕ) (xs : List ℕ) → x ≢ 0 → repeated (x ∷ xs) ≡ false → member x xs ≡ false
unfolding repeated
repeated-head zero xs n e = absurd (n refl)
repeated-head (suc x) xs n e = or_left (member (suc x) xs) (repeated xs) e
