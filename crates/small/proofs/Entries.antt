-- A small entry that is legal in 4 blocks is one of those tried; and a test that only small entries pass. Assumes nothing.
use Prim.Native.Nat.{ℕ, ◌+◌, ◌*◌, ◌-◌, ◌/◌, ◌%◌, ◌^◌, ◌≤◌, ◌<◌}
use native.Mathlib.Omega.{arith}
use native.Mathlib.Decide.{dec_lt}
use mathlib.Core.Path.{◌≡◌, sym, ap, ◌∙◌}
use mathlib.Core.Bool.{Bool, true}
use mathlib.Core.List.{[], ◌∷◌}
use lib.Dec.{leb, ltb, eqb}
use borrow.Author.Tests.{ltb-true, leb-true, eqb-true, le-leb, lt-ltb, le-ltb}
use Rattle.words.specs.Edition.{one}
use Rattle.words.specs.Logic.{every}
use Rattle.block_log.specs.Entry.{entry_v, entry_b, entry_n, entry_u, entry_point, entry_of, covers, legal}
use Rattle.words.proofs.Logic.{and_right, and_both, every-all}
use Rattle.block_log.proofs.Entry.{Valid, legal-valid, whole}
use Rattle.small.specs.SmallLogs.{SmallEntry, Among}
use Rattle.small.specs.Tried.{of_one_block, entry_count, legal_entry, legal_entries}
use Rattle.small.proofs.Among.{in_list}

-- an entry that maps virtual blocks 0 and 1 only ends there
ends : (w : ℕ) → 1 ≤ entry_n w → ((v : ℕ) → covers v w ≡ true → v < 2) → entry_v w + entry_n w ≤ 2
ends w n only =
    let last = entry_v w + entry_n w - 1 in
    let here : last < 2 = only last (and_both (leb (entry_v w) last) (ltb last (entry_v w + entry_n w))
    (le-leb (entry_v w) last (omega (arith, n))) (lt-ltb last (entry_v w + entry_n w) (omega (arith, n)))) in
    omega (arith, n, here)

-- legal entry k: of one block, then of two
pub entry-one : (k : ℕ) → k < of_one_block → legal_entry k ≡ entry_of one (k % 2) (k / 2 + 1) 1 512 0
unfolding legal_entry
entry-one k h = rw (legal_entry, lt-ltb k of_one_block h)

pub entry-two : (k : ℕ) → of_one_block ≤ k → legal_entry k ≡ entry_of one 0 (k + 1 - of_one_block) 2 512 0
unfolding legal_entry
entry-two k h = rw (legal_entry, le-ltb k of_one_block h)

-- by its block and its virtual block
of_one : (v b : ℕ) → v < 2 → 1 ≤ b → b ≤ 3 → legal_entry (2 * (b - 1) + v) ≡ entry_of one v b 1 512 0
of_one v b hv low high =
    let m : (2 * (b - 1) + v) % 2 ≡ v = omega arith in
    let d : (2 * (b - 1) + v) / 2 + 1 ≡ b = omega arith in
    entry-one (2 * (b - 1) + v) (omega arith) ∙ (rw (m, d))

of_two : (b : ℕ) → 1 ≤ b → legal_entry (b + 5) ≡ entry_of one 0 b 2 512 0
of_two b low = let d : b + 5 + 1 - of_one_block ≡ b = omega arith in entry-two (b + 5) (omega arith) ∙ (rw d)

module _ (w : ℕ) (s : SmallEntry w) (ok : legal one 4 w ≡ true) where
  valid : Valid one 4 w
  valid = legal-valid one 4 w ok

  is-entry : (k : ℕ) → k < entry_count → w ≡ legal_entry k → Among w legal_entries
  is-entry k h e = rw e (in_list legal_entry 0 entry_count k (omega arith) h)

  pub legal-small : Among w legal_entries
  legal-small = go (dec_lt (entry_n w) 2)
    where
      end : entry_v w + entry_n w ≤ 2
      end = ends w valid.count s.virtual

      fields : w ≡ entry_of one (entry_v w) (entry_b w) (entry_n w) 512 0
      fields = omega (arith, whole one w s.word valid.top, s.used, s.point)

      go : Dec (entry_n w < 2) → Among w legal_entries
      go (yes h) =
          let n : entry_n w ≡ 1 = omega (arith, valid.count) in
          is-entry (2 * (entry_b w - 1) + entry_v w) (omega (arith, end, n, valid.from, valid.inside))
          (fields ∙ ap (λ n. entry_of one (entry_v w) (entry_b w) n 512 0) n
          ∙ sym (of_one (entry_v w) (entry_b w) (omega (arith, end, n)) valid.from (omega (arith, n, valid.inside))))
      go (no h) =
          let n : entry_n w ≡ 2 = omega (arith, end) in
          let v : entry_v w ≡ 0 = omega (arith, end) in
          is-entry (entry_b w + 5) (omega (arith, n, valid.inside))
          (fields ∙ ap (λ n. entry_of one (entry_v w) (entry_b w) n 512 0) n ∙ ap (λ v. entry_of one v (entry_b w) 2 512 0) v
          ∙ sym (of_two (entry_b w) valid.from))

-- a test that computes, and that only small entries pass
abbrev pub is_small : ℕ → Bool
is_small w = every (ltb w (2 ^ 64) ∷ leb (entry_v w + entry_n w) 2 ∷ eqb (entry_u one w) 512 ∷ eqb (entry_point one w) 0 ∷ [])

pub small_is : (w : ℕ) → is_small w ≡ true → SmallEntry w
small_is w h = let t = every-all _ h in record {
  word = ltb-true _ _ t.0;
  virtual = λ v c. let l = ltb-true v (entry_v w + entry_n w) (and_right (leb (entry_v w) v) (ltb v (entry_v w + entry_n w)) c) in
      let e = leb-true (entry_v w + entry_n w) 2 t.1.0 in omega (arith, l, e);
  used = eqb-true _ _ t.1.1.0;
  point = eqb-true _ _ t.1.1.1.0;
}
