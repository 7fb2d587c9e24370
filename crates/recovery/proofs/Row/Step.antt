-- A step of a live point of a row, outcome by outcome: it ends the write, or lowers the point's rank.
use mathlib.Core.Path.{◌≡◌, refl, sym, ap, ◌∙◌}
use mathlib.Core.Logic.{◌≢◌, ◌⊎◌, inl, inr}
use mathlib.Core.List.{List, []}
use mathlib.Core.Bool.{Bool, true, false, ◌&&◌}
use Prim.Native.Nat.{ℕ, suc, ◌+◌, ◌*◌, ◌-◌, ◌/◌, ◌%◌, ◌≤◌, ◌<◌}
use native.Mathlib.Omega.{arith}
use native.Mathlib.Decide.{dec_lt}
use lib.ListN.{length}
use Rattle.words.proofs.Sizes.{split-word, word_in}
use Rattle.words.proofs.Grid.{word_at}
use Rattle.words.proofs.Tests.{no_true}
use Rattle.words.specs.Edition.{Edition}
use Rattle.words.specs.Logic.{some_of}
use Rattle.words.specs.Memory.{Memory, memory}
use Rattle.block_log.specs.Entry.{covers}
use Rattle.block_log.specs.declared.Shared.{Shared}
use Rattle.block_log.specs.CatchUp.{Walk}
use Rattle.points.specs.declared.Point as PP
use Rattle.points.specs.declared.Write as PW
use Rattle.points.specs.Record.{is_joined, is_zeroing, is_writing, run_first, run_blocks, run_words, caught_up, first_edge, last_edge}
use Rattle.points.specs.Fill.{next_word, new_word}
use Rattle.points.specs.Search.{search}
use Rattle.points.specs.Plan.{Outcome}
use Rattle.points.specs.Serving.{step_goes_on}
use Rattle.points.specs.Stepping.{stepping, refill, refill_after}
use Rattle.points.proofs.Replies.{ends-number}
use Rattle.points.proofs.CarriedOut.{after_fill, after_commit, after_give_up, after_extend, after_link, after_give_back, after_zero, after_move}
use Rattle.recovery.specs.World.{World}
use Rattle.recovery.specs.Book.{Book}
use Rattle.recovery.specs.History.{step_finishes}
use Rattle.recovery.proofs.Model.Use.{Use}
use Rattle.recovery.proofs.Model.LogPlace.{LogEnd, end_in}
use Rattle.recovery.proofs.Model.Walk.{LogWalk, Tail, stop, entry, next, walk_end}
use Rattle.recovery.proofs.Model.Invariant.{PointInv}
use Rattle.recovery.proofs.Calls.CatchUp.{arrived}
use Rattle.recovery.proofs.Calls.Mapping.{Tied, point_of, zeroing-phase}
use Rattle.recovery.proofs.Calls.Begin.{ahead-is}
use Rattle.recovery.proofs.Calls.StepTied.{is_busy, sp, stored_is, unstored}
use Rattle.recovery.proofs.Calls.Ways.{each_way}
use Rattle.recovery.proofs.Calls.NotRefused.{pos-most}
use Rattle.recovery.proofs.Lone.Rank.{left_in, next-fewer}
use Rattle.recovery.proofs.Lone.Falls.{refill-left, refill-phase, moved-busy}
use Rattle.recovery.proofs.Row.Rank.{turn_rank, Settled, rank-zeroing, rank-plain, waits, waits-more, waits-le, tail_cost}
use Rattle.recovery.proofs.Row.Rank.{cost-tight, cost-there, cost-apart, cost-low, cost-caught}
use Rattle.recovery.proofs.Row.Sight.{sight, seen_after, Still, AllGrown, AllLinked, from-core, wi}
use Rattle.recovery.proofs.Row.Sight.{unstored-still, held-still, commit-grown, link-seen, link-linked}

-- how a step of point n went, which has o other live points
pub data Fair (E : Edition) (w : World) (o n : ℕ) (r : Outcome) : Type 0 where
  ends : step_finishes r.step ≡ true → r.shared.joined ≡ w.shared.joined → Still E w r ⊎ AllGrown E w r → Fair E w o n r
  goes : step_goes_on r.step ≡ true → r.shared.joined ≡ w.shared.joined → is_writing r.point.head.write.phase ≡ true
      → Settled E o (seen_after E w r r.point.head.place) r.point
      → turn_rank E o (seen_after E w r r.point.head.place) r.point < turn_rank E o (sight E w n) (w.newest n)
      → Still E w r ⊎ AllLinked E w r → Fair E w o n r

-- a walk from a place that is not the tail reads an entry, or only enters the tail's block
data Onward (t : LogEnd) (b : ℕ) (es : List ℕ) : Type 0 where
  reads : 1 ≤ length es → Onward t b es
  enters : es ≡ [] → t.slot ≡ 2 → b ≢ t.blk → Onward t b es

onward : {E : Edition} {I : List ℕ} {own : ℕ → Use} {B : ℕ} {t : LogEnd} → Tail E I own t → {b s k : ℕ} {es : List ℕ}
    → LogWalk E I own B t b s k es → (b ≡ t.blk → s ≡ t.slot → ⊥) → Onward t b es
onward tail (stop a c) n = absurd (n a c)
onward tail (entry o l h w v r) n = reads (omega arith)
onward {E} {I} {own} {B} {t} tail (next {b = b} o h w nz x r) n = inside r
  where
    apart : b ≢ t.blk
    apart e = nz (sym w ∙ ap (λ (y : ℕ). word_at E I y 0) e ∙ tail.last)

    inside : {c k : ℕ} {es : List ℕ} → LogWalk E I own B t c 2 k es → Onward t b es
    inside (stop a c) = enters refl (sym c) apart
    inside (entry o l h w v r) = reads (omega arith)
    inside (next o h w nz x r) = absurd (omega arith)

module _ {E : Edition} {L : List ℕ} (w : World) (bk : Book) (h : Tied E L w bk) (n : ℕ) (j : is_joined w.shared n ≡ true)
    (busy_phase : is_writing (w.newest n).head.write.phase ≡ true) (o : ℕ) (few : o < 32)
    (settled : Settled E o (sight E w n) (w.newest n)) where
  abbrev I : List ℕ
  I = w.words

  abbrev B : ℕ
  B = w.shared.blocks

  abbrev T : LogEnd
  T = h.inv.tail

  abbrev p : PP.Point
  p = w.newest n

  abbrev m : Memory
  m = memory E I

  abbrev s : Shared
  s = w.shared

  abbrev a : Walk
  a = sight E w n

  abbrev pi : PointInv E I B h.inv.own T h.inv.cur n (bk.note n) (point_of p)
  pi = h.inv.points n j

  a-slot : a.slot ≡ T.slot
  a-slot = ap (λ (x : Walk). x.slot) (ahead-is w bk h n j)

  a_block : a.block ≡ T.blk
  a_block = ap (λ (x : Walk). x.block) (ahead-is w bk h n j)

  a-count : length a.entries ≡ length pi.ahead
  a-count = ap (λ (x : Walk). length x.entries) (ahead-is w bk h n j)

  abbrev Goes : Outcome → Type 0
  Goes = Fair E w o n

  -- an outcome that leaves the walks as they were, and the point where it stood
  stays : (r : Outcome) → step_goes_on r.step ≡ true → r.shared.joined ≡ w.shared.joined → is_writing r.point.head.write.phase ≡ true
      → r.point.head.place ≡ p.head.place → Settled E o a r.point → turn_rank E o a r.point < turn_rank E o a p → Still E w r → Goes r
  stays r on joined busy same set lower still =
      let e : seen_after E w r r.point.head.place ≡ a = rw same (still n j) in
      goes on joined busy (rw e set) (rw e lower) (inl still)

  not-zeroing : (c : Walk) (q : PP.Point) → is_zeroing q.head.write.phase ≡ false → Settled E o c q
  not-zeroing c q e z = absurd (no_true z e)

  -- ---- filling
  fill-fair : is_zeroing p.head.write.phase ≡ false → next_word E p.head.write < run_words E p.head.write
      → Goes (after_fill E m s p (next_word E p.head.write))
  unfolding after_fill
  fill-fair z l =
      let k = next_word E p.head.write in
      let x = new_word E m p.head p.table p.text k in
      let own = (wi w bk h n j busy_phase).owned (k / E.block_words) (omega (arith, sp w bk h n j busy_phase, word_in E k (run_blocks E p.head.write) l)) in
      let f = next-fewer E p.head.write busy_phase z (pos-most w bk h n j busy_phase z) l in
      let r = after_fill E m s p k in
      stays r refl refl busy_phase refl (not-zeroing a r.point z)
      (rw (rank-plain E o a r.point z, rank-plain E o a p z) (omega arith))
      (held-still w bk h n j busy_phase r (p.head.write.run + k / E.block_words) (k % E.block_words) x (split-word E k).1 (λ f. (rw own at f) refl)
      (stored_is E I (p.head.write.run + k / E.block_words) (k % E.block_words) x) refl)

  -- ---- zeroing
  zero-fair : is_zeroing p.head.write.phase ≡ true → p.head.write.position < E.block_words → Goes (after_zero E m s p)
  unfolding after_zero
  zero-fair z at =
      let own = ((wi w bk h n j busy_phase).zero (zeroing-phase p.head.write.phase z)).held in
      let r = after_zero E m s p in
      stays r refl refl refl refl (λ e. settled z)
      (rw (rank-zeroing E o a r.point refl, rank-zeroing E o a p z) (omega arith))
      (held-still w bk h n j busy_phase r p.head.write.zeroing p.head.write.position 0 at (λ f. (rw own at f) refl)
      (stored_is E I p.head.write.zeroing p.head.write.position 0) refl)

  -- the slot behind the last, where a zeroing point stands
  at_slot : is_zeroing p.head.write.phase ≡ true → p.head.place.slot ≡ E.block_words
  at_slot z = ((rw (is_busy w bk h n j busy_phase) at pi.at_end) (zeroing-phase p.head.write.phase z)).0

  -- committing: no word is left
  to-commit : (c : Walk) (q : PP.Point) → is_zeroing q.head.write.phase ≡ false
      → left_in E q.head.write.phase (run_words E q.head.write) q.head.write.position ≡ 0
      → turn_rank E o c q ≡ waits E (o + length c.entries) + tail_cost E o c q.head.place.block + 1
  to-commit c q z e = rank-plain E o c q z ∙ rw e (omega arith)

  link-fair : is_zeroing p.head.write.phase ≡ true → E.block_words ≤ p.head.write.position → word_at E I p.head.place.block 0 ≡ 0
      → Goes (after_link E m s p)
  unfolding after_link
  link-fair z at e =
      let r = after_link E m s p in
      let c = arrived (end_in p.head.write.zeroing T) [] 0 in
      let same : seen_after E w r r.point.head.place ≡ c = link-seen w bk h n j busy_phase z at (at_slot z) e in
      let u = waits-le E (o + 0) (o + length a.entries) (omega arith) in
      goes refl refl refl (λ x. absurd (no_true x refl))
      (rw (same, to-commit c r.point refl (omega arith), cost-there E o c p.head.write.zeroing (omega (arith, E.least)) refl, rank-zeroing E o a p z)
      (omega arith))
      (inr (link-linked w bk h n j busy_phase z at (at_slot z) e))

  -- the next index that is there is not the tail's
  lost-fair : is_zeroing p.head.write.phase ≡ true → word_at E I p.head.place.block 0 ≢ 0 → Goes (after_give_back E m s p)
  unfolding after_give_back
  lost-fair z x =
      let r = after_give_back E m s p in
      stays r refl refl refl refl (not-zeroing a r.point refl)
      (rw (to-commit a r.point refl (omega arith), rank-zeroing E o a p z) (lower (settled z)))
      (unstored-still w bk h n j busy_phase r refl refl)
    where
      apart : p.head.place.block ≢ a.block
      apart e = x (ap (λ (y : ℕ). word_at E I y 0) (e ∙ a_block) ∙ h.inv.core.log.tail.last)

      lower : (p.head.place.block ≡ a.block) ⊎ (a.slot + o < E.block_words)
          → suc (waits E (o + length a.entries) + tail_cost E o a p.head.place.block + 1)
          ≤ waits E (o + length a.entries) + (E.block_words - p.head.write.position) + 3
      lower (inl e) = absurd (apart e)
      lower (inr l) = let c = cost-low E o a p.head.place.block l in omega arith

  -- ---- extending: the point stands at the tail, which is full
  extend-fair : is_zeroing p.head.write.phase ≡ false → p.head.place.slot ≡ E.block_words → word_at E I p.head.place.block 0 ≡ 0
      → Goes (after_extend E m s p (search s 1))
  unfolding after_extend
  extend-fair z full e =
      let st = walk_end pi.place.walk full e in
      let r = after_extend E m s p (search s 1) in
      stays r refl refl refl refl (λ x. inl (st.block ∙ sym a_block))
      (rw (
        rank-zeroing E o a r.point refl,
        rank-plain E o a p z,
        cost-tight E o a p.head.place.block (omega (arith, st.slot, a-slot)),
      ) (omega arith))
      (unstored-still w bk h n j busy_phase r refl refl)

  -- ---- Moved
  abbrev x : PW.Write
  x = p.head.write

  left_after : (es : List ℕ) → left_in E (refill_after E es x).phase (run_words E (refill_after E es x)) (refill_after E es x).position ≤ 2 * E.block_words
  unfolding refill_after
  left_after es = refill-left w bk h n j busy_phase (first_edge E x && some_of (covers (run_first E x)) es)
      (last_edge E x && some_of (covers (run_first E x + run_blocks E x - 1)) es)

  plain-after : (es : List ℕ) → is_zeroing (refill_after E es x).phase ≡ false
  unfolding refill_after
  plain-after es = refill-phase w bk h n j busy_phase (first_edge E x && some_of (covers (run_first E x)) es)
      (last_edge E x && some_of (covers (run_first E x + run_blocks E x - 1)) es)

  -- where no entry is read nothing is filled again
  none_after : left_in E (refill_after E [] x).phase (run_words E (refill_after E [] x)) (refill_after E [] x).position ≡ 0
  unfolding refill_after
  none_after = go (first_edge E x) (last_edge E x)
    where
      go : (a b : Bool) → left_in E (refill (a && false) (b && false) E x).phase (run_words E (refill (a && false) (b && false) E x))
          (refill (a && false) (b && false) E x).position ≡ 0
      go true true = omega arith
      go true false = omega arith
      go false true = omega arith
      go false false = omega arith

  moved-lower : (q : PP.Point) → q.head.write ≡ refill_after E a.entries x → q.head.place.block ≡ T.blk → Onward T p.head.place.block pi.ahead
      → is_zeroing x.phase ≡ false → turn_rank E o (arrived T [] 0) q < turn_rank E o a p
  moved-lower q e at (reads l) z =
      let f = left_after a.entries in
      let u = waits-more E (o + 0) (o + length a.entries) (omega (arith, a-count)) in
      let c = cost-caught E o a (arrived T [] 0) p.head.place.block (sym a-slot) in
      rw (rank-plain E o (arrived T [] 0) q (rw e (plain-after a.entries)), rank-plain E o a p z, e, at) (omega arith)
  moved-lower q e at (enters none two apart) z =
      let i : a.entries ≡ [] = ap (λ (y : Walk). y.entries) (ahead-is w bk h n j) ∙ none in
      let e' : q.head.write ≡ refill_after E [] x = e ∙ rw i in
      let c = cost-there E o (arrived T [] 0) T.blk (omega (arith, two, E.least)) refl in
      let d = cost-apart E o a p.head.place.block (omega (arith, a-slot, two, E.least)) (λ y. apart (y ∙ a_block)) in
      let u = waits-le E (o + 0) (o + length a.entries) (omega arith) in
      rw (rank-plain E o (arrived T [] 0) q (rw e' (plain-after [])), rank-plain E o a p z, e', at, none_after, d, c) (omega arith)

  moved-fair : is_zeroing x.phase ≡ false → (p.head.place.block ≡ T.blk → p.head.place.slot ≡ T.slot → ⊥) → Goes (after_move E m s p)
  unfolding caught_up
  moved-fair z not_at =
      let r = after_move E m s p in
      let same : seen_after E w r r.point.head.place ≡ arrived T [] 0 =
      rw (unstored E I) (from-core h.inv.core r.point.head.place (stop a_block a-slot)) in
      goes refl refl (moved-busy w bk h n j busy_phase) (λ y. absurd (no_true y (plain-after a.entries)))
      (rw same (moved-lower r.point refl a_block (onward h.inv.core.log.tail pi.place.walk not_at) z))
      (inl (unstored-still w bk h n j busy_phase r refl refl))

  -- at the tail the word is empty, or the block ends with no next index
  not_at : (p.head.place.slot < E.block_words → word_at E I p.head.place.block p.head.place.slot ≢ 0)
      → (p.head.place.slot ≡ E.block_words → word_at E I p.head.place.block 0 ≢ 0) → p.head.place.block ≡ T.blk → p.head.place.slot ≡ T.slot → ⊥
  not_at e f b sl = go (dec_lt T.slot E.block_words)
    where
      t : Tail E I h.inv.own T
      t = h.inv.core.log.tail

      go : Dec (T.slot < E.block_words) → ⊥
      go (yes l) = e (omega arith) (rw (b, sl) (t.clean T.slot (omega arith) l))
      go (no l) = f (omega (arith, t.high)) (rw b t.last)

  -- ---- whichever way
  pub step-fair : Goes (stepping E I s p)
  unfolding after_give_up after_commit
  step-fair = each_way w bk h n j busy_phase Goes (record {
    fills = fill-fair;
    zeroes = zero-fair;
    links = link-fair;
    loses = lost-fair;
    commits = λ z filled l e. ends refl refl (inr (commit-grown w bk h n j busy_phase filled z l e));
    extends = extend-fair;
    gives_up = λ k e. ends (rw (ends-number k e) e) refl (inl (unstored-still w bk h n j busy_phase (after_give_up E m s p k) refl refl));
    moves = λ z e f. moved-fair z (not_at e f);
  })
