-- The ways that a step of a joined point's write may go, each with what the tests on its way say: whoever proves something of every outcome gives
-- one proof for each (`each_way`). The refusals 10 to 15 and 18 never come, nor does 20 at the link.
use mathlib.Core.Path.{◌≡◌, refl, sym, ap, ◌∙◌, subst}
use mathlib.Core.Logic.{◌≢◌}
use mathlib.Core.List.{List}
use mathlib.Core.Bool.{Bool, true, false, ◌||◌}
use Prim.Native.Nat.{ℕ, zero, suc, ◌≤◌, ◌<◌}
use native.Mathlib.Omega.{arith}
use lib.Dec.{ltb, eqb}
use borrow.Author.Tests.{lt-ltb, ltb-true, ltb-false, lt-leb, eqb-true, eq-eqb}
use Rattle.words.specs.Edition.{Edition, chain_max}
use Rattle.words.specs.Logic.{is_zero, first}
use Rattle.words.specs.Memory as M
use Rattle.words.specs.Memory.{Memory, memory}
use Rattle.words.proofs.Logic.{and_left, and_right, and_both}
use Rattle.words.proofs.Grid.{word_at, word-view}
use Rattle.words.proofs.Tests.{passes, nonzero, zero_is, is-zero, first-is, no_true}
use Rattle.block_log.specs.declared.Shared.{Shared}
use Rattle.block_log.specs.Chain.{next_index}
use Rattle.points.specs.declared.Head.{Head}
use Rattle.points.specs.declared.Write as PW
use Rattle.points.specs.declared.Point as PP
use Rattle.points.specs.declared.plan.Plan.{Plan}
use Rattle.points.specs.Record.{is_joined, is_zeroing, is_writing, run_words}
use Rattle.points.specs.Fill.{next_word}
use Rattle.points.specs.Search.{search}
use Rattle.points.specs.Plan.{Outcome, carried_out}
use Rattle.points.specs.Stepping.{ends_write, at_end, committing, extending, write_on, stepping}
use Rattle.points.proofs.CarriedOut.{after_fill, after_commit, after_give_up, after_extend, after_link, after_give_back, after_zero, after_move}
use Rattle.points.proofs.CarriedOut.{fill-leaves, commit-leaves, give-up-leaves, move-leaves, extend-leaves, zero-leaves, link-leaves, give-back-leaves}
use Rattle.points.proofs.StepCases.{on-zeroing, on-filling, zero-on, link_on, lost-on, fill_on, commit-on, store-on, end_on, move-on, extend-on, give-on}
use Rattle.points.proofs.StepCases.{empty, ended, end_reasons}
use Rattle.points.proofs.Phases.{writing-busy, writing-apart}
use Rattle.recovery.specs.World as W
use Rattle.recovery.specs.Book.{Book}
use Rattle.recovery.proofs.Calls.Mapping.{Tied, zeroing-phase}
use Rattle.recovery.proofs.Calls.StepTied.{is_busy}
use Rattle.recovery.proofs.Calls.Extend.{link-room}
use Rattle.recovery.proofs.Calls.NotRefused.{step-on, not-broken}
use Rattle.recovery.proofs.Calls.Step.{step-done}

-- a proof for each way; next indexes and words are the image's
pub record Ways (E : Edition) (w : W.World) (n : ℕ) (P : Outcome → Type 0) : Type 0 where
  pub fills : let p = w.newest n in let x = p.head.write in is_zeroing x.phase ≡ false → next_word E x < run_words E x
      → P (after_fill E (memory E w.words) w.shared p (next_word E x))
  pub zeroes : let p = w.newest n in let x = p.head.write in is_zeroing x.phase ≡ true → x.position < E.block_words
      → P (after_zero E (memory E w.words) w.shared p)
  pub links : let p = w.newest n in let x = p.head.write in is_zeroing x.phase ≡ true → E.block_words ≤ x.position
      → word_at E w.words p.head.place.block 0 ≡ 0 → P (after_link E (memory E w.words) w.shared p)
  pub loses : let p = w.newest n in let x = p.head.write in is_zeroing x.phase ≡ true → word_at E w.words p.head.place.block 0 ≢ 0
      → P (after_give_back E (memory E w.words) w.shared p)
  pub commits : let p = w.newest n in let x = p.head.write in is_zeroing x.phase ≡ false → run_words E x ≤ next_word E x
      → p.head.place.slot < E.block_words → word_at E w.words p.head.place.block p.head.place.slot ≡ 0
      → P (after_commit E (memory E w.words) w.shared p)
  pub extends : let p = w.newest n in let x = p.head.write in is_zeroing x.phase ≡ false → p.head.place.slot ≡ E.block_words
      → word_at E w.words p.head.place.block 0 ≡ 0 → P (after_extend E (memory E w.words) w.shared p (search w.shared 1))
  pub gives_up : (k : ℕ) → ends_write k ≡ true → P (after_give_up E (memory E w.words) w.shared (w.newest n) k)
  pub moves : let p = w.newest n in let x = p.head.write in is_zeroing x.phase ≡ false
      → (p.head.place.slot < E.block_words → word_at E w.words p.head.place.block p.head.place.slot ≢ 0)
      → (p.head.place.slot ≡ E.block_words → word_at E w.words p.head.place.block 0 ≢ 0)
      → P (after_move E (memory E w.words) w.shared p)

module _ {E : Edition} {L : List ℕ} (w : W.World) (bk : Book) (h : Tied E L w bk) (n : ℕ) (j : is_joined w.shared n ≡ true)
    (busy_phase : is_writing (w.newest n).head.write.phase ≡ true) (P : Outcome → Type 0) (way : Ways E w n P) where
  abbrev I : List ℕ
  I = w.words

  abbrev p : PP.Point
  p = w.newest n

  abbrev q : Head
  q = p.head

  abbrev x : PW.Write
  x = q.write

  abbrev m : Memory
  m = memory E I

  abbrev s : Shared
  s = w.shared

  abbrev out : Plan → Outcome
  out = carried_out E m s p

  -- the words that the tests look at
  next-is : next_index m q.place.block ≡ word_at E I q.place.block 0
  next-is = word-view E I s.blocks h.inv.core.image.size q.place.block 0 (omega arith)

  word-is : q.place.slot < E.block_words → M.word_at m q.place.block q.place.slot ≡ word_at E I q.place.block q.place.slot
  word-is l = word-view E I s.blocks h.inv.core.image.size q.place.block q.place.slot l

  zeroing-way : is_zeroing x.phase ≡ true → P (out (extending E m q s.chain))
  zeroing-way z = go (ltb x.position E.block_words) (is_zero (next_index m q.place.block)) refl refl
    where
      -- a zeroing point stands at the slot behind the last
      full : q.place.slot ≡ E.block_words
      full = ((rw (is_busy w bk h n j busy_phase) at (h.inv.points n j).at_end) (zeroing-phase x.phase z)).0

      go : (a b : Bool) → ltb x.position E.block_words ≡ a → is_zero (next_index m q.place.block) ≡ b → P (out (extending E m q s.chain))
      go true b e f = let l = ltb-true x.position E.block_words e in
          subst P (sym (ap out (zero-on E m q s.chain e) ∙ zero-leaves E m s p l)) (way.zeroes z l)
      go false true e f =
          let none = zero_is (next_index m q.place.block) f in
          let room = lt-leb chain_max s.chain (link-room w bk h n j busy_phase z full none) in
          subst P (sym (ap out (link_on E m q s.chain e f room) ∙ link-leaves E m s p))
          (way.links z (ltb-false x.position E.block_words e) (sym next-is ∙ none))
      go false false e f = subst P (sym (ap out (lost-on E m q s.chain e f) ∙ give-back-leaves E m s p)) (way.loses z (λ y. nonzero _ f (next-is ∙ y)))

  committing-way : is_zeroing x.phase ≡ false → run_words E x ≤ next_word E x → P (out (committing E m q s))
  committing-way z filled = go (empty E m q) (ended E m q) refl refl
    where
      full : ended E m q ≡ true → q.place.slot ≡ E.block_words
      full f = eqb-true q.place.slot E.block_words (and_left _ (is_zero (next_index m q.place.block)) f)

      short : empty E m q ≡ true → q.place.slot < E.block_words
      short e = ltb-true q.place.slot E.block_words (and_left _ (is_zero (M.word_at m q.place.block q.place.slot)) e)

      at-end : ended E m q ≡ true → (k : ℕ) → first (end_reasons E m q s) ≡ k → P (out (at_end E m q s))
      at-end f zero e = subst P (sym
          (ap out (extend-on E m q s e) ∙ extend-leaves E m s p (search s 1) (nonzero _ (passes (end_reasons E m q s) refl e 1))))
          (way.extends z (full f)
          (sym next-is ∙ zero_is (next_index m q.place.block) (and_right (eqb q.place.slot E.block_words) _ f)))
      at-end f (suc k) e = subst P (sym (ap out (give-on E m q s k e) ∙ give-up-leaves E m s p (suc k)))
          (way.gives_up (suc k) (first-is (λ i. eqb i 20 || eqb i 21) (end_reasons E m q s) refl k e))

      go : (a b : Bool) → empty E m q ≡ a → ended E m q ≡ b → P (out (committing E m q s))
      go true b e f = subst P (sym (ap out (store-on E m q s e) ∙ commit-leaves E m s p (short e)))
          (way.commits z filled (short e)
          (sym (word-is (short e)) ∙ zero_is (M.word_at m q.place.block q.place.slot) (and_right (ltb q.place.slot E.block_words) _ e)))
      go false true e f = subst P (sym (ap out (end_on E m q s e f))) (at-end f (first (end_reasons E m q s)) refl)
      go false false e f = subst P (sym (ap out (move-on E m q s e f) ∙ move-leaves E m s p (not-broken w bk h n j)))
          (way.moves z
          (λ l y. no_true (and_both (ltb q.place.slot E.block_words) _ (lt-ltb q.place.slot E.block_words l) (is-zero _ (word-is l ∙ y))) e)
          (λ l y. no_true (and_both (eqb q.place.slot E.block_words) _ (eq-eqb q.place.slot E.block_words l) (is-zero _ (next-is ∙ y))) f))

  pub each_way : P (stepping E I s p)
  each_way = subst P (sym (step-done w bk h n p p (writing-apart x.phase busy_phase) (step-on w bk h n j (writing-busy x.phase busy_phase))))
      (go (is_zeroing x.phase) (ltb (next_word E x) (run_words E x)) refl refl)
    where
      go : (a b : Bool) → is_zeroing x.phase ≡ a → ltb (next_word E x) (run_words E x) ≡ b → P (out (write_on E m s p))
      go true b e f = subst P (sym (ap out (on-zeroing E m s p e))) (zeroing-way e)
      go false true e f = subst P (sym (ap out (on-filling E m s p e ∙ fill_on E m s p f) ∙ fill-leaves E m s p (next_word E x)))
          (way.fills e (ltb-true (next_word E x) (run_words E x) f))
      go false false e f = subst P (sym (ap out (on-filling E m s p e ∙ commit-on E m s p f)))
          (committing-way e (ltb-false (next_word E x) (run_words E x) f))
