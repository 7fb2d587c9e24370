-- Plain steps: where words are left, a point's step stores the next one, and of the point only the position changes.
use mathlib.Core.Path.{◌≡◌, sym, ap, ◌∙◌, subst}
use mathlib.Core.Logic.{inl, inr}
use mathlib.Core.Bool.{true, false}
use mathlib.Core.List.{List, [], ◌∷◌}
use Prim.Native.Nat.{ℕ, ◌+◌, ◌≤◌, ◌<◌}
use native.Mathlib.Omega.{arith}
use native.Mathlib.Numerals.{add-one}
use lib.ListN.{length, get_or, set}
use Rattle.words.specs.Edition.{one}
use Rattle.words.specs.Memory.{after}
use Rattle.words.proofs.Choice.{choose-true, choose-false}
use Rattle.points.specs.declared.Phase.{Phase}
use Rattle.points.specs.declared.Phase.TheVariants.{Filling, Zeroing}
use Rattle.points.specs.declared.Point.{Point}
use Rattle.points.specs.declared.serve.Due.{Due}
use Rattle.points.specs.Record.{phase_number, phase_of, run_words}
use Rattle.points.specs.Stepping.{stepping}
use Rattle.points.specs.Batch.{filled_at, row_of}
use Rattle.points.specs.Serving.{Turned}
use Rattle.points.proofs.Ready.{Ready, ready-text}
use Rattle.points.proofs.Turns.{fill-turn, zero_turn}
use Rattle.points.proofs.Rows.{few_words}
use Rattle.c_lent.specs.Numbers.{SharedLent, PointLent, shared_in, lend_shared, lend_point, shared_as}
use Rattle.c_lent.specs.Serving.{CommonLent, ListedLent, common_lent, listed_lent, point_as, turn_left, kind_goes_on, step_turn_for}
use Rattle.c_lent.specs.Batch.{ReadyAt, Plain, one_on, NextWords, StoresNext}
use Rattle.c_lent.proofs.Heads.{phase-back}
use Rattle.c_lent.proofs.Shared.{numbers-same}
use Rattle.c_lent.proofs.Turns.{turn-off}
use Rattle.c_lent.proofs.ReadyAt.{outcome_turn, is-ready, ready-turn}

-- ---- one word on

pub one_on_lem : (p : PointLent) (a : List ℕ) → kind_goes_on (get_or a 0 0) ≡ true
    → one_on (listed_lent p a) ≡ listed_lent (point_as (set p.head 8 (get_or p.head 8 0 + 1)) p.table p.text) (1 ∷ 0 ∷ [])
unfolding one_on
one_on_lem p a g = choose-true (kind_goes_on (get_or a 0 0)) _ _ g

pub none-on : (x : ListedLent) → kind_goes_on (get_or x.answer 0 0) ≡ false → one_on x ≡ x
unfolding one_on
none-on x g = choose-false (kind_goes_on (get_or x.answer 0 0)) _ _ g

pub phase-is : (p : Phase) (n : ℕ) → phase_number p ≡ n → p ≡ phase_of n
phase-is p n e = sym (phase-back p) ∙ ap phase_of e

-- ---- a record's own turn

pub shared_same : (s : SharedLent) (p : Point) → 3 ≤ length s.numbers → lend_shared (shared_in s) ≡ s
shared_same s p long = ap (λ (n : List ℕ). shared_as n s.taken) (sym (numbers-same s.taken p.head s.numbers long))

module _ (words : List ℕ) (s : SharedLent) (p : Point) (a : List ℕ) (row : Due) (left : List ℕ) (long : 3 ≤ length s.numbers) (r : Ready one words (shared_in s) p)
    (g : kind_goes_on (get_or a 0 0) ≡ true) where
  abbrev x : ListedLent
  x = listed_lent (lend_point p) a

  abbrev T : Type 0
  T = Turned CommonLent ListedLent

  own_turn : NextWords 1 row x
      → StoresNext words row (phase_number p.head.write.phase) p.head.write.zeroing p.head.write.position p.text left
      → turn_left (common_lent left s) (one_on x) ≡ outcome_turn words (stepping one words (shared_in s) p)
  unfolding after
  own_turn w st = go w.plain
    where
      go : Plain 1 x → turn_left (common_lent left s) (one_on x) ≡ outcome_turn words (stepping one words (shared_in s) p)
      go (inl f) =
          let k = p.head.write.position in
          let ph : p.head.write.phase ≡ Filling = phase-is _ 1 f.0 in
          let few : k < run_words one p.head.write = omega (arith, f.2) in
          let zero' : k + 0 ≡ k = omega arith in
          let row' : row.row ≡ row_of one p.head p.table k = rw zero' at (w.row_is f.0 0 (omega arith)) in
          let l : left ≡ filled_at one p.head p.table p.text k words =
          st.filled (λ q. absurd (omega (arith, f.0, q))) p.head p.table (row', (ready-text r, few)) in
          rw (one_on_lem (lend_point p) a g, fill-turn r ph few, shared_same s p long, l, add-one)
      go (inr z) =
          let k = p.head.write.position in
          let ph : p.head.write.phase ≡ Zeroing = phase-is _ 5 z.0 in
          let few : k < one.block_words = omega (arith, z.1) in
          rw (one_on_lem (lend_point p) a g, zero_turn r ph few, shared_same s p long, st.zeroed z.0, ph, add-one)

-- ---- a listed point's

module _ {c : CommonLent} {x : ListedLent} (r : ReadyAt c x) (g : kind_goes_on (get_or x.answer 0 0) ≡ true) {row : Due} (w : NextWords 1 row x) where
  pub plain-turned : (left : List ℕ)
      → StoresNext c.image row (get_or x.point.head 7 0) (get_or x.point.head 9 0) (get_or x.point.head 8 0) x.point.text left
      → turn_left (common_lent left c.shared) (one_on x) ≡ step_turn_for c x
  plain-turned left st =
      subst (λ (y : PointLent). NextWords 1 row (listed_lent y x.answer)
      → StoresNext c.image row (get_or y.head 7 0) (get_or y.head 9 0) (get_or y.head 8 0) y.text left
      → turn_left (common_lent left c.shared) (one_on (listed_lent y x.answer)) ≡ outcome_turn c.image (stepping one c.image (shared_in c.shared) r.point))
      (sym r.is)
      (own_turn c.image c.shared r.point x.answer row left r.numbers (is-ready r) g) w st
      ∙ sym (ready-turn r g)

  pub next_small : get_or x.point.head 8 0 < 192
  next_small =
      subst (λ (y : PointLent). NextWords 1 row (listed_lent y x.answer) → get_or y.head 8 0 < 192) (sym r.is) own w
    where
      own : NextWords 1 row (listed_lent (lend_point r.point) x.answer) → r.point.head.write.position < 192
      own v = go v.plain
        where
          go : Plain 1 (listed_lent (lend_point r.point) x.answer) → r.point.head.write.position < 192
          go (inl f) = omega (arith, f.2, few_words r.point.head (ready-text (is-ready r)))
          go (inr z) = omega (arith, z.1)

-- one that does not go on has none
pub plain-none : (words : List ℕ) (s : SharedLent) (x : ListedLent) → kind_goes_on (get_or x.answer 0 0) ≡ false
    → turn_left (common_lent words s) (one_on x) ≡ step_turn_for (common_lent words s) x
plain-none words s x g = ap (turn_left (common_lent words s)) (none-on x g) ∙ turn-off words s x.point x.answer g
