-- The shared tests as the code makes them, from the first on, are the definitions' lists of tests. Assumes nothing.
use Prim.Native.Nat.{ℕ, zero, suc, ◌+◌, ◌*◌, ◌-◌, ◌/◌, ◌^◌, ◌≤◌, ◌<◌, max}
use native.Mathlib.Omega.{arith}
use mathlib.Core.Path.{◌≡◌, refl, sym, ◌∙◌, ap}
use mathlib.Core.Logic.{◌≢◌}
use mathlib.Core.Bool.{Bool, true, false, ◌&&◌, ◌||◌, not, and-true, and_assoc, or-false, or_assoc}
use mathlib.Core.List.{List, [], ◌∷◌}
use lib.ListN.{length}
use Rattle.std.specs.List.{fold}
use lib.Dec.{leb, ltb, eqb}
use lib.Pow.{shr_lt, pow_mono}
use native.Mathlib.Nat.{lt_of_lt_of_le, zero-add}
use native.Mathlib.Decide.{dec_lt}
use borrow.Author.Tests.{lt-ltb, le-ltb, ltb-true}
use Rattle.words.specs.Edition.{Edition, file_end, chain_max}
use Rattle.words.specs.Logic.{every, any, all_of, between}
use Rattle.words.proofs.Choice.{choose-true, choose-false}
use Rattle.words.proofs.Logic.{agree}
use Rattle.words.specs.Word.{bit}
use Rattle.block_log.specs.declared.Place.{Place}
use Rattle.block_log.specs.declared.Shared.{Shared}
use Rattle.points.specs.declared.Write.{Write}
use Rattle.points.specs.declared.Head.{Head}
use Rattle.points.specs.declared.Numbers.{Numbers}
use Rattle.points.specs.declared.Phase.TheVariants.{Idle}
use Rattle.points.specs.Record.{phase_of, is_idle, is_zeroing, is_reading, span, run_words, range_words, bad_shared, bad_text, past_end}
use Rattle.points.specs.Record.{inside, place_fits, zeroing_fits, write_fits, range_fits, work_fits, head_fits, all_below, fits}
use Rattle.points.specs.Search.{Known, numbers_of}

-- ---- several tests, made from the first on

abbrev pub ands : Bool → List Bool → Bool
ands a [] = a
ands a (b ∷ bs) = ands (a && b) bs

pub ands-every : (a : Bool) (bs : List Bool) → ands a bs ≡ every (a ∷ bs)
unfolding every
ands-every a [] = sym (and-true a)
ands-every a (b ∷ bs) = ands-every (a && b) bs ∙ and_assoc a b (every bs)

abbrev pub ors : Bool → List Bool → Bool
ors a [] = a
ors a (b ∷ bs) = ors (a || b) bs

pub ors-any : (a : Bool) (bs : List Bool) → ors a bs ≡ any (a ∷ bs)
unfolding any
ors-any a [] = sym (or-false a)
ors-any a (b ∷ bs) = ors-any (a || b) bs ∙ or_assoc a b (any bs)

-- ---- the shared record

pub shared-tests :
    (E : Edition) (words : List ℕ) (s : Shared)
    → ((not (between 4 s.blocks 1024) || not (eqb (E.block_words * s.blocks) (length words))) || not (between 1 s.chain chain_max))
    || not (all_below s.blocks s.reports)
    ≡ bad_shared E words s
unfolding bad_shared
shared-tests E words s =
    ors-any (not (between 4 s.blocks 1024))
    (not (eqb (E.block_words * s.blocks) (length words)) ∷ not (between 1 s.chain chain_max) ∷ not (all_below s.blocks s.reports) ∷ [])

-- reports that are known by numbers: there always are some
abbrev pub any_reports : Numbers → List ℕ
any_reports n = elim n.inside [ true ↦ [] | false ↦ n.blocks ∷ [] ]

pub any-known : (n : Numbers) → Known n (any_reports n)
unfolding all_below
any-known n = go n.inside
  where
    go : (b : Bool) → b ≡ all_below n.blocks (elim b [ true ↦ [] | false ↦ n.blocks ∷ [] ])
    go true = refl
    go false = rw (le-ltb n.blocks n.blocks (omega arith))

-- and those of a shared record are, by its own
pub of-known : (s : Shared) (n : Numbers) → n ≡ numbers_of s → Known n s.reports
of-known s n e = rw e

-- ---- the head

module _ (E : Edition) (blocks : ℕ) (p : Place) where
  pub place-tests : inside blocks p.block 1 && between 2 p.slot E.block_words ≡ place_fits E blocks p
  unfolding place_fits
  place-tests = ands-every (inside blocks p.block 1) (between 2 p.slot E.block_words ∷ [])

  module _ (w : Write) where
    pub zeroing-tests :
        (inside blocks w.zeroing 1 && leb w.position E.block_words) && eqb p.slot E.block_words ≡ zeroing_fits E blocks p w
    unfolding zeroing_fits
    zeroing-tests = ands-every (inside blocks w.zeroing 1) (leb w.position E.block_words ∷ eqb p.slot E.block_words ∷ [])

    abbrev pub run_tests : Bool
    run_tests = (not (bad_text w.size) && not (past_end E w.offset w.size)) && inside blocks w.run (span E w.offset w.size)

    abbrev pub position_test : Bool
    position_test =
        elim (is_zeroing w.phase) [ true ↦ zeroing_fits E blocks p w | false ↦ leb w.position (span E w.offset w.size * E.block_words) ]

    write-tests : run_tests && position_test ≡ write_fits E blocks p w
    unfolding write_fits
    write-tests =
        ands-every (not (bad_text w.size))
        (not (past_end E w.offset w.size) ∷ inside blocks w.run (span E w.offset w.size) ∷ position_test ∷ [])

    pub write-no-run : run_tests ≡ false → false ≡ write_fits E blocks p w
    write-no-run e = rw e at write-tests

    module _ (run : run_tests ≡ true) where
      the-position : position_test ≡ write_fits E blocks p w
      the-position = rw run at write-tests

      pub write-zeroing : is_zeroing w.phase ≡ true → zeroing_fits E blocks p w ≡ write_fits E blocks p w
      write-zeroing e = sym (choose-true (is_zeroing w.phase) (zeroing_fits E blocks p w) (leb w.position (run_words E w)) e) ∙ the-position

      pub write-filling : is_zeroing w.phase ≡ false → leb w.position (run_words E w) ≡ write_fits E blocks p w
      write-filling e = sym (choose-false (is_zeroing w.phase) (zeroing_fits E blocks p w) (leb w.position (run_words E w)) e) ∙ the-position

-- what is under way: a read's range, or a write
pub range-tests : (E : Edition) (w : Write)
    → (not (bad_text w.size) && not (past_end E w.offset w.size)) && leb w.position (range_words w) ≡ range_fits E w
unfolding range_fits
range-tests E w = ands-every (not (bad_text w.size)) (not (past_end E w.offset w.size) ∷ leb w.position (range_words w) ∷ [])

module _ (E : Edition) (blocks : ℕ) (h : Head) where
  abbrev write_test : Bool
  write_test = elim (is_idle h.write.phase) [ true ↦ true | false ↦ work_fits E blocks h.place h.write ]

  head-tests : (place_fits E blocks h.place && leb h.length (file_end E)) && write_test ≡ head_fits E blocks h
  unfolding head_fits
  head-tests = ands-every (place_fits E blocks h.place) (leb h.length (file_end E) ∷ write_test ∷ [])

  pub head-idle : is_idle h.write.phase ≡ true → place_fits E blocks h.place && leb h.length (file_end E) ≡ head_fits E blocks h
  head-idle e =
      sym (and-true _)
      ∙ ap (λ (t : Bool). (place_fits E blocks h.place && leb h.length (file_end E)) && t)
      (sym (choose-true (is_idle h.write.phase) true (work_fits E blocks h.place h.write) e))
      ∙ head-tests

  pub head-busy :
      is_idle h.write.phase ≡ false
      → (place_fits E blocks h.place && leb h.length (file_end E)) && work_fits E blocks h.place h.write ≡ head_fits E blocks h
  head-busy e =
      ap (λ (t : Bool). (place_fits E blocks h.place && leb h.length (file_end E)) && t)
      (sym (choose-false (is_idle h.write.phase) true (work_fits E blocks h.place h.write) e))
      ∙ head-tests

  abbrev place_test : Bool
  place_test = place_fits E blocks h.place && leb h.length (file_end E)

  -- with the table, test by test
  module _ (table : List ℕ) where
    all-tests : (place_test && write_test) && all_below blocks table ≡ fits E blocks h table
    unfolding fits
    all-tests = ap (λ (t : Bool). t && all_below blocks table) head-tests ∙ ands-every (head_fits E blocks h) (all_below blocks table ∷ [])

    pub misplaced : place_test ≡ false → false ≡ fits E blocks h table
    misplaced e = rw e at all-tests

    pub mistabled : all_below blocks table ≡ false → false ≡ fits E blocks h table
    mistabled e = sym (and_none (place_test && write_test)) ∙ ap (λ (t : Bool). (place_test && write_test) && t) (sym e) ∙ all-tests
      where
        and_none : (b : Bool) → b && false ≡ false
        and_none true = refl
        and_none false = refl

    module _ (placed : place_test ≡ true) (tabled : all_below blocks table ≡ true) where
      the-write : write_test ≡ fits E blocks h table
      the-write =
          sym (and-true write_test) ∙ ap (λ (t : Bool). (t && write_test) && true) (sym placed)
          ∙ ap (λ (t : Bool). (place_test && write_test) && t) (sym tabled)
          ∙ all-tests

      pub idle-fits : is_idle h.write.phase ≡ true → true ≡ fits E blocks h table
      idle-fits e = sym (choose-true (is_idle h.write.phase) true (work_fits E blocks h.place h.write) e) ∙ the-write

      pub unread-fits : is_idle h.write.phase ≡ false → is_reading h.write.phase ≡ false
          → write_fits E blocks h.place h.write ≡ fits E blocks h table
      unread-fits e r =
          sym (choose-false (is_reading h.write.phase) (range_fits E h.write) (write_fits E blocks h.place h.write) r)
          ∙ sym (choose-false (is_idle h.write.phase) true (work_fits E blocks h.place h.write) e)
          ∙ the-write

-- ---- a number that is no phase's but Idle's

pub phase-none : (n : ℕ) → n ≢ 1 → n ≢ 2 → n ≢ 3 → n ≢ 4 → n ≢ 5 → n ≢ 6 → Idle ≡ phase_of n
phase-none zero a b c d e f = refl
phase-none (suc zero) a b c d e f = absurd (a refl)
phase-none (suc (suc zero)) a b c d e f = absurd (b refl)
phase-none (suc (suc (suc zero))) a b c d e f = absurd (c refl)
phase-none (suc (suc (suc (suc zero)))) a b c d e f = absurd (d refl)
phase-none (suc (suc (suc (suc (suc zero))))) a b c d e f = absurd (e refl)
phase-none (suc (suc (suc (suc (suc (suc zero)))))) a b c d e f = absurd (f refl)
phase-none (suc (suc (suc (suc (suc (suc (suc n))))))) a b c d e f = refl

-- ---- the table

-- test by test
pub folded : (n : ℕ) (a : Bool) (xs : List ℕ) → fold (λ (ok : Bool) (b : ℕ). ok && ltb b n) a xs ≡ (a && all_below n xs)
unfolding all_below
folded n a [] = sym (and-true a)
folded n a (x ∷ xs) = folded n (a && ltb x n) xs ∙ and_assoc a (ltb x n) (all_of (λ b. ltb b n) xs)

-- a number joins the greatest so far; 0 stands for none
pub below_both : (a b n : ℕ) → ltb (max a b) n ≡ (ltb a n && ltb b n)
below_both a b n = go (dec_lt a n) (dec_lt b n)
  where
    go : Dec (a < n) → Dec (b < n) → ltb (max a b) n ≡ (ltb a n && ltb b n)
    go (yes l) (yes k) = rw (lt-ltb a n l, lt-ltb b n k) (lt-ltb (max a b) n (omega arith))
    go (yes l) (no k) = let k : n ≤ b = omega arith in rw (lt-ltb a n l, le-ltb b n k) (le-ltb (max a b) n (omega arith))
    go (no l) d = let l : n ≤ a = omega arith in rw (le-ltb a n l) (le-ltb (max a b) n (omega arith))

fold-below : (n a : ℕ) (xs : List ℕ) → ltb (fold max a xs) n ≡ (ltb a n && all_below n xs)
unfolding all_below
fold-below n a [] = sym (and-true (ltb a n))
fold-below n a (x ∷ xs) =
    fold-below n (max a x) xs ∙ ap (λ (t : Bool). t && all_of (λ b. ltb b n) xs) (below_both a x n)
    ∙ and_assoc (ltb a n) (ltb x n) (all_of (λ b. ltb b n) xs)

-- a table with an entry
pub greatest-below : (n : ℕ) (table : List ℕ) → 0 < length table → ltb (fold max 0 table) n ≡ all_below n table
unfolding all_below
greatest-below n [] h = absurd (omega arith)
greatest-below zero (x ∷ xs) h = fold-below 0 0 (x ∷ xs) ∙ rw (le-ltb x 0 (omega arith))
greatest-below (suc n) (x ∷ xs) h = fold-below (suc n) 0 (x ∷ xs) ∙ rw (lt-ltb 0 (suc n) (omega arith))

-- ---- the end of the file, and bits past a number's width

pub end-past : (E : Edition) (offset size : ℕ) → file_end E < size → past_end E offset size ≡ true
end-past E offset size h = lt-ltb (file_end E) (offset + size) (omega arith)

pub end-left : (E : Edition) (offset size : ℕ) → size ≤ file_end E → ltb (file_end E - size) offset ≡ past_end E offset size
end-left E offset size h =
    agree (ltb (file_end E - size) offset) (past_end E offset size)
    (λ e. let l = ltb-true (file_end E - size) offset e in lt-ltb (file_end E) (offset + size) (omega arith))
    (λ e. let l = ltb-true (file_end E) (offset + size) e in lt-ltb (file_end E - size) offset (omega arith))

pub no-bit : (n w j : ℕ) → w < 2 ^ n → n ≤ j → bit w j ≡ false
no-bit n w j l h =
    let z : w / 2 ^ j < 2 ^ 0 = shr_lt 0 j (lt_of_lt_of_le l (rw (zero-add j) (pow_mono h))) in
    let e : w / 2 ^ j ≡ 0 = omega arith in
    rw e
