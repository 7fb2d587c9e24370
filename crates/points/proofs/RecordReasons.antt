-- The reasons that calls with a record share: a call's list of reasons goes on where 10, 11 and 14 fail, and is settled where one holds.
-- Assumes nothing.
use Prim.Native.Nat.{ℕ, suc}
use native.Mathlib.Omega.{arith}
use mathlib.Core.Path.{◌≡◌, refl, sym, ◌∙◌}
use mathlib.Core.Bool.{Bool, true, false, not}
use mathlib.Core.List.{List, [], ◌∷◌, ◌++◌}
use lib.ListN.{get_or}
use borrow.Author.Tests.{not-false}
use Rattle.words.specs.Edition.{Edition}
use Rattle.words.specs.Logic.{Reason, first, ◌when◌, is_zero, all_of}
use Rattle.words.proofs.Choice.{choose-true, choose-false}
use Rattle.words.proofs.Tests.{no_reason, passes, no_true}
use Rattle.words.proofs.Logic.{and_left, and_right}
use Rattle.block_log.specs.declared.Shared.{Shared}
use Rattle.points.specs.declared.Head.{Head}
use Rattle.points.specs.Record.{bad_shared, fits, is_joined, record_reasons, unfit}

-- ---- any list of reasons

-- a reason that holds; reasons that come after
pub first-settled : (n : ℕ) (b : Bool) (rs : List Reason) → b ≡ true → first (n when b ∷ rs) ≡ n
first-settled n b rs e = choose-true b n (first rs) e

pub first-goes-on : (n : ℕ) (b : Bool) (rs : List Reason) → b ≡ false → first (n when b ∷ rs) ≡ first rs
first-goes-on n b rs e = choose-false b n (first rs) e

-- reasons of which one holds stay so, whatever comes after
pub settled_before : (rs more : List Reason) (k : ℕ) → first rs ≡ suc k → first (rs ++ more) ≡ suc k
settled_before [] more k e = absurd (omega arith)
settled_before (r ∷ rs) more k e = go r.holds refl (λ h. settled_before rs more k h)
  where
    go : (b : Bool) → r.holds ≡ b → (first rs ≡ suc k → first (rs ++ more) ≡ suc k) → first (r ∷ (rs ++ more)) ≡ suc k
    go true x ih = first-settled r.number r.holds (rs ++ more) x ∙ sym (first-settled r.number r.holds rs x) ∙ e
    go false x ih = first-goes-on r.number r.holds (rs ++ more) x ∙ ih (sym (first-goes-on r.number r.holds rs x) ∙ e)

-- reasons of which none holds, and which have numbers, have no say in what comes after
pub gone-past : (rs more : List Reason) → all_of (λ r. not (is_zero r.number)) rs ≡ true → first rs ≡ 0 → first (rs ++ more) ≡ first more
gone-past [] more n e = refl
gone-past (r ∷ rs) more n e = go r.holds refl (λ h. gone-past rs more (and_right (not (is_zero r.number)) _ n) h)
  where
    go : (b : Bool) → r.holds ≡ b → (first rs ≡ 0 → first (rs ++ more) ≡ first more) → first (r ∷ (rs ++ more)) ≡ first more
    go true x ih =
        let z : r.number ≡ 0 = sym (first-settled r.number r.holds rs x) ∙ e in
        let f : not (is_zero r.number) ≡ false = rw z in
        absurd (no_true (and_left (not (is_zero r.number)) _ n) f)
    go false x ih = first-goes-on r.number r.holds (rs ++ more) x ∙ ih (sym (first-goes-on r.number r.holds rs x) ∙ e)

-- ---- 10, 11 and 14

module _ (E : Edition) (words : List ℕ) (s : Shared) (h : Head) (table : List ℕ) where
  abbrev reasons : List Reason
  reasons = record_reasons E words s h table

  pub unfit-before : (more : List Reason) (k : ℕ) → unfit E words s h table ≡ suc k → first (reasons ++ more) ≡ suc k
  unfolding unfit
  unfit-before more k e = settled_before reasons more k e

  module _ (e : unfit E words s h table ≡ 0) where
    passed : (i : ℕ) → (get_or reasons i no_reason).holds ≡ false
    unfolding unfit
    passed = passes reasons refl e

    pub fit-shared : bad_shared E words s ≡ false
    fit-shared = passed 0

    pub fit-record : fits E s.blocks h table ≡ true
    fit-record = not-false (fits E s.blocks h table) (passed 1)

    pub fit-joined : is_joined s h.number ≡ true
    fit-joined = not-false (is_joined s h.number) (passed 2)

    pub fit-goes-on : (more : List Reason) → first (reasons ++ more) ≡ first more
    fit-goes-on more = rw (fit-shared, fit-record, fit-joined)
