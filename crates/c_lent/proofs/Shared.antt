-- The numbers of a shared record: a list of 35, and with other reports. Assumes nothing.
use Prim.Native.Nat.{ℕ, suc, ◌+◌, ◌-◌, ◌≤◌}
use native.Mathlib.Omega.{arith}
use mathlib.Core.Path.{◌≡◌, refl}
use mathlib.Core.List.{List, [], ◌∷◌, ◌++◌, append-nil}
use lib.ListN.{length, get_or, set, take, drop, length-drop, drop_of_length-le}
use lib.Seq.{take_all}
use Rattle.block_log.specs.declared.Shared.{Shared}
use Rattle.std.specs.Prelude.{Ok, Err}
use Rattle.block_log.specs.Refusals.{Reply}
use Rattle.points.specs.declared.Head.{Head}
use Rattle.points.specs.declared.plan.Reports.{Reports}
use Rattle.points.specs.declared.plan.Reports.TheVariants.{NoReport, Standing, Linked}
use Rattle.points.specs.Plan.{reported}
use Rattle.points.specs.Search.{reporting_place, lengthening}
use Rattle.points.specs.Lent.{begun_shared}
use Rattle.c_lent.specs.Numbers.{shared_numbers, reports_from, shared_from}

-- ---- the reports as they are lent: the numbers from the fourth on

module _ (xs : List ℕ) where
  rest_le : length (reports_from xs) ≤ length xs - 3
  rest_le = omega (arith, length-drop 3 xs)

  pub rest-whole : take (length xs - 3) (reports_from xs) ≡ reports_from xs
  rest-whole = take_all (length xs - 3) (reports_from xs) rest_le

  pub rest-long : (n : ℕ) → length xs ≡ 3 + n → length (take (length xs - 3) (reports_from xs)) ≡ n
  rest-long n e = rw rest-whole (omega (arith, length-drop 3 xs))

  -- and handed back
  pub rest_back : (ys : List ℕ) → take 3 xs ++ (ys ++ drop (length xs - 3) (reports_from xs)) ≡ take 3 xs ++ ys
  rest_back ys = rw (drop_of_length-le (reports_from xs) rest_le, append-nil ys)

-- of C's 35 numbers: as many as there are reports
module _ (xs : List ℕ) (e : length xs ≡ 35) where
  pub all_32 : take 32 (reports_from xs) ≡ reports_from xs
  all_32 = take_all 32 (reports_from xs) (omega (arith, length-drop 3 xs, e))

  pub back_32 : (ys : List ℕ) → take 3 xs ++ (ys ++ drop 32 (reports_from xs)) ≡ take 3 xs ++ ys
  back_32 ys = let few : length (reports_from xs) ≤ 32 = omega (arith, length-drop 3 xs, e) in
      rw (drop_of_length-le (reports_from xs) few, append-nil ys)

-- ---- a shared record's numbers

-- other ones, with the reports
abbrev pub first_three : List ℕ → ℕ → ℕ → ℕ → List ℕ
first_three xs a b c = set (set (set xs 0 a) 1 b) 2 c

pub numbers-put : (xs reports : List ℕ) (a b c : ℕ) → 3 ≤ length xs → take 3 (first_three xs a b c) ++ reports ≡ a ∷ b ∷ c ∷ reports
numbers-put [] reports a b c l = absurd (omega arith)
numbers-put (_ ∷ []) reports a b c l = absurd (omega arith)
numbers-put (_ ∷ _ ∷ []) reports a b c l = absurd (omega arith)
numbers-put (_ ∷ _ ∷ _ ∷ xs) reports a b c l = refl

-- as they were; with another report; with a longer chain too
module _ (taken : List ℕ) (h : Head) where
  pub numbers-same : (xs : List ℕ) → 3 ≤ length xs → xs ≡ shared_numbers (shared_from xs taken)
  numbers-same [] l = absurd (omega arith)
  numbers-same (a ∷ []) l = absurd (omega arith)
  numbers-same (a ∷ b ∷ []) l = absurd (omega arith)
  numbers-same (a ∷ b ∷ c ∷ xs) l = refl

  pub numbers-report :
      (xs : List ℕ) → 3 ≤ length xs
      → take 3 xs ++ set (reports_from xs) h.number h.place.block ≡ shared_numbers (reporting_place h (shared_from xs taken))
  numbers-report [] l = absurd (omega arith)
  numbers-report (a ∷ []) l = absurd (omega arith)
  numbers-report (a ∷ b ∷ []) l = absurd (omega arith)
  numbers-report (a ∷ b ∷ c ∷ xs) l = refl

  pub numbers-longer :
      (xs : List ℕ) → 3 ≤ length xs → let ys = set xs 2 (get_or xs 2 0 + 1) in
      take 3 ys ++ set (reports_from ys) h.number h.place.block ≡ shared_numbers (lengthening (reporting_place h (shared_from xs taken)))
  numbers-longer [] l = absurd (omega arith)
  numbers-longer (a ∷ []) l = absurd (omega arith)
  numbers-longer (a ∷ b ∷ []) l = absurd (omega arith)
  numbers-longer (a ∷ b ∷ c ∷ xs) l = let e : c + 1 ≡ suc c = omega arith in rw e

-- ---- the map is as it was

pub begun-taken : (r : Reply) (h : Head) (s : Shared) → (begun_shared r h s).taken ≡ s.taken
begun-taken (Ok x) h s = refl
begun-taken (Err e) h s = refl

pub reported-taken : (r : Reports) (h : Head) (s : Shared) → (reported r h s).taken ≡ s.taken
reported-taken NoReport h s = refl
reported-taken Standing h s = refl
reported-taken Linked h s = refl
