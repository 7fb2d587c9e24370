-- What a call that is not the point's own step, and not its leaving, leaves to a point whose write or read is under way: the image and its blocks, its
-- record, its bit.
-- Its own joining and beginning are refused, by 13 and 15.
use mathlib.Core.Path.{◌≡◌, refl, sym, ap, ◌∙◌, subst}
use mathlib.Core.Logic.{◌≢◌}
use mathlib.Core.List.{List}
use mathlib.Core.Bool.{true, false, not}
use Prim.Native.Nat.{ℕ, zero, suc, ◌<◌}
use lib.ListN.{length, get_or}
use borrow.Author.Tests.{not-false}
use Rattle.words.specs.Edition.{Edition}
use Rattle.points.specs.declared.Point as PP
use Rattle.points.specs.declared.Joined.{Joined}
use Rattle.points.specs.declared.Begun.{Begun}
use Rattle.points.specs.declared.Left.{Left}
use Rattle.points.specs.Record.{is_joined, is_idle, unfit}
use Rattle.points.specs.Calls.{joining, join_refusal, beginning, begin_refusal, beginning_read, begin_read_refusal, leaving}
use Rattle.recovery.specs.World.{World, join, begin, begin_read, leave, handed, with_newest, joined_as, serve}
use Rattle.recovery.specs.Book.{Book}
use Rattle.words.proofs.WithBit.{with_bit-other}
use Rattle.words.proofs.Tests.{no_true}
use Rattle.points.proofs.NotRefused.{join_apart, begin-either, begin-idle, leave-joined}
use Rattle.recovery.proofs.Calls.Mapping.{Tied, handed-newest, is-joined, with_newest-other, with_newest-handed}
use Rattle.recovery.proofs.Calls.Join.{join-eq-done, join-eq-refused}
use Rattle.recovery.proofs.Calls.Begin.{begin-eq-done, begin-eq-refused}
use Rattle.recovery.proofs.Calls.Read.{begin-read-eq-done, begin-read-eq-refused}
use Rattle.recovery.proofs.Calls.Leave.{leave-eq-done, leave-eq-refused}

pub record Kept (w v : World) (n : ℕ) : Type 0 where
  pub words : v.words ≡ w.words
  pub newest : v.newest n ≡ w.newest n
  pub joined : is_joined v.shared n ≡ true
  pub blocks : v.shared.blocks ≡ w.shared.blocks

module _ {E : Edition} {L : List ℕ} (w : World) (bk : Book) (h : Tied E L w bk) (n : ℕ) (j : is_joined w.shared n ≡ true)
    (busy : is_idle (w.newest n).head.write.phase ≡ false) where
  pub join_kept : (k : ℕ) → Kept w (serve E w (join k)).world n
  unfolding serve
  join_kept k = go (join_refusal E w.words w.shared k) refl
    where
      after : Joined → World
      after r = record { words = w.words; shared = r.shared; newest = joined_as r.reply w k r.point }

      go : (i : ℕ) → join_refusal E w.words w.shared k ≡ i → Kept w (after (joining E w.words w.shared k)) n
      go (suc i) e = subst (λ (r : Joined). Kept w (after r) n) (sym (join-eq-refused w bk h k i e))
          (record { words = refl; newest = refl; joined = j; blocks = refl })
      go zero e =
          let apart : n ≢ k = λ s. no_true (rw s at j) (join_apart E w.words w.shared k e) in
          subst (λ (r : Joined). Kept w (after r) n) (sym (join-eq-done w bk h k e))
          (record { words = refl; newest = with_newest-other w k _ n apart; joined = with_bit-other true w.shared.joined k n apart ∙ j; blocks = refl })

  -- one that begins is idle, so another
  busy-apart : (k : ℕ) (p : PP.Point) → not (is_idle (handed w k p).head.write.phase) ≡ false → n ≢ k
  busy-apart k p e s =
      no_true (ap (λ (q : PP.Point). is_idle q.head.write.phase) (sym (handed-newest w k p (rw s at j))) ∙ not-false _ e) (rw s at busy)

  pub begin-kept : (k : ℕ) (p : PP.Point) (o : ℕ) (text : List ℕ) → ((i : ℕ) → get_or text i 0 < 256)
      → Kept w (serve E w (begin k p o text)).world n
  unfolding serve
  begin-kept k p o text bytes = go (begin_refusal E w.words w.shared y.head y.table o (length text)) refl
    where
      y : PP.Point
      y = handed w k p

      after : Begun → World
      after r = record { words = w.words; shared = r.shared; newest = with_newest w k r.point }

      go : (i : ℕ) → begin_refusal E w.words w.shared y.head y.table o (length text) ≡ i
          → Kept w (after (beginning E w.words w.shared y o text)) n
      go (suc i) e = subst (λ (r : Begun). Kept w (after r) n) (sym (begin-eq-refused w bk h k p o text bytes y i e))
          (record { words = refl; newest = with_newest-handed w k p n j; joined = j; blocks = refl })
      go zero e =
          let apart = busy-apart k p (begin-idle E w.words w.shared y o (length text) (begin-either E w.words w.shared y o (length text) e)) in
          subst (λ (r : Begun). Kept w (after r) n) (sym (begin-eq-done w bk h k p o text bytes y e))
          (record { words = refl; newest = with_newest-other w k _ n apart; joined = j; blocks = refl })

  pub begin-read-kept : (k : ℕ) (p : PP.Point) (o size : ℕ) → Kept w (serve E w (begin_read k p o size)).world n
  unfolding serve
  begin-read-kept k p o size = go (begin_read_refusal E w.words w.shared y.head y.table o size) refl
    where
      y : PP.Point
      y = handed w k p

      after : Begun → World
      after r = record { words = w.words; shared = r.shared; newest = with_newest w k r.point }

      go : (i : ℕ) → begin_read_refusal E w.words w.shared y.head y.table o size ≡ i
          → Kept w (after (beginning_read E w.words w.shared y o size)) n
      go (suc i) e = subst (λ (r : Begun). Kept w (after r) n) (sym (begin-read-eq-refused w bk h k p o size y i e))
          (record { words = refl; newest = with_newest-handed w k p n j; joined = j; blocks = refl })
      go zero e =
          subst (λ (r : Begun). Kept w (after r) n) (sym (begin-read-eq-done w bk h k p o size y e))
          (record {
            words = refl;
            newest = with_newest-other w k _ n (busy-apart k p (begin-idle E w.words w.shared y o size e));
            joined = j;
            blocks = refl;
          })

  pub leave-kept : (k : ℕ) (p : PP.Point) → k ≢ n → Kept w (serve E w (leave k p)).world n
  unfolding serve
  leave-kept k p apart = go (unfit E w.words w.shared y.head y.table) refl
    where
      y : PP.Point
      y = handed w k p

      after : Left → World
      after r = record { words = w.words; shared = r.shared; newest = w.newest }

      go : (i : ℕ) → unfit E w.words w.shared y.head y.table ≡ i → Kept w (after (leaving E w.words w.shared y)) n
      go (suc i) e = subst (λ (r : Left). Kept w (after r) n) (sym (leave-eq-refused w bk h k p i e))
          (record { words = refl; newest = refl; joined = j; blocks = refl })
      go zero e =
          let own = is-joined w bk h k p (leave-joined E w.words w.shared y e) in
          let num : y.head.number ≡ k = ap (λ (q : PP.Point). q.head.number) (handed-newest w k p own) ∙ h.numbers k own in
          let other : n ≢ y.head.number = λ s. apart (sym (s ∙ num)) in
          subst (λ (r : Left). Kept w (after r) n) (sym (leave-eq-done w bk h k p e))
          (record { words = refl; newest = refl; joined = with_bit-other false w.shared.joined y.head.number n other ∙ j; blocks = refl })
