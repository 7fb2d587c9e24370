-- What opening's number tells: the reason with that number holds, and none before it does. `reached` says so of every list of reasons in which the
-- number stands once; the rest is its citation for 1 to 9.
use mathlib.Core.Path.{◌≡◌, refl, sym, ◌∙◌}
use mathlib.Core.List.{List, [], ◌∷◌}
use mathlib.Core.Bool.{Bool, true, false, not}
use Prim.Native.Nat.{ℕ, zero, suc, ◌≤◌, ◌<◌}
use native.Mathlib.Omega.{arith}
use lib.Dec.{leb, eqb}
use lib.ListN.{get_or, take, drop}
use borrow.Author.Tests.{leb-true}
use Rattle.words.specs.Edition.{Edition}
use Rattle.words.specs.Logic.{all_of, first, Reason, ◌when◌}
use Rattle.words.specs.Memory.{Memory, memory, block_count, wrong_size}
use Rattle.words.proofs.Choice.{choose-true, choose-false}
use Rattle.words.proofs.Logic.{and_left, and_right}
use Rattle.words.proofs.Tests.{differs, no_reason, first-is}
use Rattle.block_log.specs.Chain.{chain, log, bad_superblock, bad_index, endless, bad_log}
use Rattle.block_log.specs.Opening.{short_scratch, content_reasons, open_refusal, bad_entry, file_of}
use Rattle.block_log.specs.Replay.{shares_block, dirty_end}
use Rattle.block_log.proofs.Opening.{Passed}

-- none of these reasons has the number k
abbrev pub lacks : ℕ → List Reason → Bool
lacks k rs = all_of (λ r. not (eqb r.number k)) rs

-- the reason at place i holds, and those before it do not
pub record Reached (rs : List Reason) (i : ℕ) : Type 0 where
  pub here : (get_or rs i no_reason).holds ≡ true
  pub before : (j : ℕ) → j < i → (get_or rs j no_reason).holds ≡ false

pub reached : (k : ℕ) (rs : List Reason) (i : ℕ) → lacks (suc k) (take i rs) ≡ true → lacks (suc k) (drop (suc i) rs) ≡ true
    → first rs ≡ suc k → Reached rs i
reached k [] i a b e = absurd (omega arith)
reached k (r ∷ rs) zero a b e = record { here = go r.holds refl; before = λ j l. absurd (omega arith) }
  where
    go : (t : Bool) → r.holds ≡ t → r.holds ≡ true
    go true x = x
    go false x =
        let f : first rs ≡ suc k = sym (choose-false r.holds r.number (first rs) x) ∙ e in
        absurd (differs (suc k) (suc k) (first-is (λ n. not (eqb n (suc k))) rs b k f) refl)
reached k (r ∷ rs) (suc i) a b e =
    go r.holds refl (λ f. reached k rs i (and_right (not (eqb r.number (suc k))) (lacks (suc k) (take i rs)) a) b f)
  where
    go : (t : Bool) → r.holds ≡ t → (first rs ≡ suc k → Reached rs i) → Reached (r ∷ rs) (suc i)
    go true x ih =
        let y : r.number ≡ suc k = sym (choose-true r.holds r.number (first rs) x) ∙ e in
        absurd (differs r.number (suc k) (and_left (not (eqb r.number (suc k))) (lacks (suc k) (take i rs)) a) y)
    go false x ih = let p = ih (sym (choose-false r.holds r.number (first rs) x) ∙ e) in record { here = p.here; before = before p }
      where
        before : Reached rs i → (j : ℕ) → j < suc i → (get_or (r ∷ rs) j no_reason).holds ≡ false
        before p zero l = x
        before p (suc j) l = p.before j (omega arith)

module _ (E : Edition) (words scratch : List ℕ) where
  abbrev m : Memory
  m = memory E words

  abbrev blocks : ℕ
  blocks = block_count E words

  -- opening's reasons, in their order
  abbrev pub reasons : List Reason
  reasons =
      1 when wrong_size E words
      ∷ 2 when short_scratch scratch
      ∷ 3 when bad_superblock E m
      ∷ 4 when bad_index blocks m
      ∷ 5 when endless m
      ∷ 6 when bad_log m
      ∷ 7 when bad_entry E blocks (log m)
      ∷ 8 when shares_block (file_of E m).table (chain m)
      ∷ 9 when dirty_end E m (file_of E m)
      ∷ []

  refusal_is : open_refusal E words scratch ≡ first reasons
  unfolding open_refusal content_reasons
  refusal_is = refl

  -- it is one of these numbers
  pub refusal-at-most-9 : open_refusal E words scratch ≤ 9
  refusal-at-most-9 = go (open_refusal E words scratch) refl
    where
      go : (n : ℕ) → open_refusal E words scratch ≡ n → n ≤ 9
      go zero e = omega arith
      go (suc k) e = leb-true (suc k) 9 (first-is (λ n. leb n 9) reasons refl k (sym refusal_is ∙ e))

  module _ (k : ℕ) (e : open_refusal E words scratch ≡ suc k) where
    at : lacks (suc k) (take k reasons) ≡ true → lacks (suc k) (drop (suc k) reasons) ≡ true → Reached reasons k
    at a b = reached k reasons k a b (sym refusal_is ∙ e)

  pub known-1 : open_refusal E words scratch ≡ 1 → wrong_size E words ≡ true
  known-1 e = (at 0 e refl refl).here

  pub known-2 : open_refusal E words scratch ≡ 2 → (wrong_size E words ≡ false) × (short_scratch scratch ≡ true)
  known-2 e = let r = at 1 e refl refl in (r.before 0 (omega arith), r.here)

  pub known-3 :
      open_refusal E words scratch ≡ 3
      → (wrong_size E words ≡ false) × (short_scratch scratch ≡ false) × (bad_superblock E (memory E words) ≡ true)
  known-3 e = let r = at 2 e refl refl in (r.before 0 (omega arith), r.before 1 (omega arith), r.here)

  pub known-4 :
      open_refusal E words scratch ≡ 4
      → (wrong_size E words ≡ false) × (short_scratch scratch ≡ false) × (bad_superblock E (memory E words) ≡ false)
      × (bad_index (block_count E words) (memory E words) ≡ true)
  known-4 e = let r = at 3 e refl refl in (r.before 0 (omega arith), r.before 1 (omega arith), r.before 2 (omega arith), r.here)

  pub known-5 :
      open_refusal E words scratch ≡ 5
      → (wrong_size E words ≡ false) × (short_scratch scratch ≡ false) × (bad_superblock E (memory E words) ≡ false)
      × (bad_index (block_count E words) (memory E words) ≡ false) × (endless (memory E words) ≡ true)
  known-5 e =
      let r = at 4 e refl refl in
      (r.before 0 (omega arith), r.before 1 (omega arith), r.before 2 (omega arith), r.before 3 (omega arith), r.here)

  pub known-6 :
      open_refusal E words scratch ≡ 6
      → (wrong_size E words ≡ false) × (short_scratch scratch ≡ false) × (bad_superblock E (memory E words) ≡ false)
      × (bad_index (block_count E words) (memory E words) ≡ false) × (endless (memory E words) ≡ false) × (bad_log (memory E words) ≡ true)
  known-6 e =
      let r = at 5 e refl refl in
      (r.before 0 (omega arith), r.before 1 (omega arith), r.before 2 (omega arith), r.before 3 (omega arith), r.before 4 (omega arith), r.here)

  -- 1 to 6 are passed where a reason behind them is reached
  passed : (i : ℕ) → 5 < i → Reached reasons i → Passed E words scratch
  passed i l r = record {
    size = r.before 0 (omega arith);
    long = r.before 1 (omega arith);
    super = r.before 2 (omega arith);
    index = r.before 3 (omega arith);
    ends = r.before 4 (omega arith);
    log-blocks = r.before 5 (omega arith);
  }

  pub known-7 : open_refusal E words scratch ≡ 7 → Passed E words scratch × (bad_entry E (block_count E words) (log (memory E words)) ≡ true)
  known-7 e = let r = at 6 e refl refl in (passed 6 (omega arith) r, r.here)

  pub known-8 :
      open_refusal E words scratch ≡ 8
      → Passed E words scratch × (bad_entry E (block_count E words) (log (memory E words)) ≡ false)
      × (shares_block (file_of E (memory E words)).table (chain (memory E words)) ≡ true)
  known-8 e = let r = at 7 e refl refl in (passed 7 (omega arith) r, r.before 6 (omega arith), r.here)

  pub known-9 :
      open_refusal E words scratch ≡ 9
      → Passed E words scratch × (bad_entry E (block_count E words) (log (memory E words)) ≡ false)
      × (shares_block (file_of E (memory E words)).table (chain (memory E words)) ≡ false)
      × (dirty_end E (memory E words) (file_of E (memory E words)) ≡ true)
  known-9 e = let r = at 8 e refl refl in (passed 8 (omega arith) r, r.before 6 (omega arith), r.before 7 (omega arith), r.here)
