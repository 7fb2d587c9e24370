-- Each call for C leaves, its numbers read back, what `serve` says; reading and locating show the book's file. By the definitions of c_lent, which are
-- those of `points` in numbers (Back), and by recovery's Served. Assumes nothing.
use Prim.Native.Nat.{ℕ}
use mathlib.Core.Path.{◌≡◌, refl, sym, ap, ◌∙◌}
use mathlib.Core.Bool.{true}
use mathlib.Core.List.{List}
use lib.ListN.{length}
use Rattle.words.specs.Edition.{one}
use Rattle.words.specs.Memory.{after}
use Rattle.words.proofs.Choice.{choose-true}
use Rattle.block_log.specs.Refusals.{Reply}
use Rattle.block_log.specs.Refusals.{Done}
use Rattle.block_log.specs.Opening.{opened, reply_of, number_of}
use Rattle.points.specs.declared.Begun.{Begun}
use Rattle.points.specs.Record.{point_of}
use Rattle.points.specs.Calls.{joining, beginning, beginning_read, leaving}
use Rattle.points.specs.Plan.{answered, stored_at}
use Rattle.points.specs.Stepping.{stepping, bytes_after}
use Rattle.points.specs.Reading.{reading, locating}
use Rattle.points.proofs.StoredAt.{told_none}
use Rattle.block_log.proofs.Replies.{reply-again}
use Rattle.recovery.proofs.Served.{open-served, join-served, begin-served, begin-read-served, step-served, leave-served, read-served, locate-served}
use Rattle.recovery.specs.Served.{OpenServed}
use Rattle.c_lent.specs.Numbers.{SharedLent, PointLent, shared_in, point_in, lend_shared, lend_point, head_from, is_known}
use Rattle.c_lent.specs.Numbers.{opened_numbers, answer_numbers, count_numbers}
use Rattle.c_lent.specs.declared.Opened.{Opened}
use Rattle.c_lent.specs.declared.Count.{Count}
use Rattle.c_lent.specs.Calls.{PointLeft, StepLeft, SharedLeft, ReadLeft, point_left, step_left, shared_left, if_known}
use Rattle.c_lent.specs.Calls.{shared_for, join_for, begin_for, begin_read_for, step_for, leave_for, read_for, locate_for}
use Rattle.c_served.specs.Served.{joined_from, begun_from, stepped_from, left_from, count_from}
use Rattle.c_served.specs.Served.{OpenServedFor, JoinServedFor, BeginServedFor, BeginReadServedFor, StepServedFor}
use Rattle.c_served.specs.Served.{LeaveServedFor, ReadServedFor, LocateServedFor}
use Rattle.c_served.proofs.Back.{is-answer, answer_back, shared_back, point-back}
use Rattle.c_served.proofs.Told.{tells-store}
use Rattle.c_lent.proofs.Known.{join-known, begin-known, begin-read-known, step-known}

pub open-for :
    (words scratch : List ℕ) (r : Opened) (s : SharedLent) → r ≡ opened_numbers (opened one words scratch) → s ≡ shared_for words scratch
    → OpenServedFor words scratch r.refused s
unfolding OpenServedFor OpenServed
open-for words scratch r s e f =
    let o = opened one words scratch in
    let served = open-served words scratch o refl in (
      λ none. served.0 (done o.reply (sym (ap (λ (x : Opened). x.refused) e) ∙ none)),
      served.1 ∙ rw (f, shared_back o.shared),
    )
  where
    done : (r : Reply) → number_of r ≡ 0 → r ≡ Done
    done r z = sym (reply-again r) ∙ ap reply_of z

begun-back : (b : Begun) → begun_from (point_left b.reply b.shared b.point) ≡ b
begun-back b = rw (reply-again b.reply, point-back b.point)

module _ (words : List ℕ) (s : SharedLent) where
  pub join-for : (number : ℕ) (l : PointLeft) → l ≡ join_for words s number → JoinServedFor words s number l
  unfolding JoinServedFor
  join-for number l e =
      let j = joining one words (shared_in s) number in
      let back : joined_from (join_for words s number) ≡ j =
      rw (reply-again j.reply, point-back j.point) in
      rw e (join-known one words (shared_in s) number, join-served words (shared_in s) number _ back)

  -- the numbers are a record's
  module _ (p : PointLent) where
    is_known_lem : {X : Type 0} (served : X) (refused : ℕ → X) → is_known p.head ≡ true → if_known words s p served refused ≡ served
    unfolding if_known
    is_known_lem served refused known = choose-true (is_known p.head) _ _ known

    pub begin-for : (offset : ℕ) (bytes : List ℕ) (l : PointLeft) → l ≡ begin_for words s p offset bytes → BeginServedFor words s p offset bytes l
    unfolding BeginServedFor
    begin-for offset bytes l e known =
        let b = beginning one words (shared_in s) (point_in p) offset bytes in
        let back : begun_from (point_left b.reply b.shared b.point) ≡ b =
        begun-back b in
        rw (e ∙ is_known_lem _ _ known) (
          begin-known one words (shared_in s) p.head p.table p.text known offset bytes,
          begin-served words (shared_in s) (point_in p) offset bytes _ back,
        )

    pub begin-read-for : (offset size : ℕ) (l : PointLeft) → l ≡ begin_read_for words s p offset size → BeginReadServedFor words s p offset size l
    unfolding BeginReadServedFor
    begin-read-for offset size l e known =
        let b = beginning_read one words (shared_in s) (point_in p) offset size in
        let back : begun_from (point_left b.reply b.shared b.point) ≡ b =
        begun-back b in
        rw (e ∙ is_known_lem _ _ known) (
          begin-read-known one words (shared_in s) p.head p.table p.text known offset size,
          begin-read-served words (shared_in s) (point_in p) offset size _ back,
        )

    pub step-for : (lent : List ℕ) (l : StepLeft) → l ≡ step_for words s p lent → StepServedFor words s p lent l
    unfolding StepServedFor
    step-for lent l e known =
        let o = stepping one words (shared_in s) (point_in p) in
        let answer = answer_numbers o.step (stored_at one o.store) in
        let served = step_left answer (after one words o.store) (lend_shared o.shared) (lend_point o.point) (bytes_after o.bytes lent) in
        let back : stepped_from served ≡ answered o = rw (answer_back o.step, point-back o.point) in
        rw (e ∙ is_known_lem _ _ known) (
          step-known one words (shared_in s) p.head p.table p.text known,
          is-answer o.step,
          tells-store words o.store (told_none one words (shared_in s) (point_in p)),
          step-served words (shared_in s) (point_in p) lent _ _ _ (record { answers = back; stored = refl; handed = refl }),
        )

    pub leave-for : (l : SharedLeft) → l ≡ leave_for words s p → LeaveServedFor words s p l
    unfolding LeaveServedFor leaving
    leave-for l e known text =
        let x = leaving one words (shared_in s) (point_in p) in
        let back : left_from (shared_left (number_of x.reply) (lend_shared x.shared)) ≡ x =
        rw (reply-again x.reply) in
        rw (e ∙ is_known_lem _ _ known) (leave-served words (shared_in s) (point_of (head_from p.head) p.table text) _ back)

    pub read-for : (offset : ℕ) (buffer : List ℕ) (l : ReadLeft) → l ≡ read_for words s p offset buffer → ReadServedFor words s p offset buffer l
    unfolding ReadServedFor reading
    read-for offset buffer l e known =
        let r = reading one words (shared_in s) (head_from p.head) p.table offset (length buffer) in
        let back : count_from (count_numbers r) ≡ r = rw (reply-again r.reply) in
        rw (e ∙ is_known_lem _ _ known)
        (read-served words (shared_in s) (head_from p.head) p.table offset buffer _ _ (record { count = back; bytes = refl }))

    pub locate-for : (block : ℕ) (c : Count) → c ≡ locate_for words s p block → LocateServedFor words s p block c
    unfolding LocateServedFor locating
    locate-for block c e known =
        let r = locating one words (shared_in s) (head_from p.head) p.table block in
        let back : count_from (count_numbers r) ≡ r = rw (reply-again r.reply) in
        rw (e ∙ is_known_lem _ _ known) (locate-served words (shared_in s) (head_from p.head) p.table block _ back)
