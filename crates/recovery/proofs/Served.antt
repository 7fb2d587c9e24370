-- A call that answers what its definition says leaves what `serve` says; reading and locating show the book's file (Answered, NoFault). Assumes nothing.
use Prim.Native.Nat.{ℕ}
use mathlib.Core.Path.{◌≡◌, sym, ap, ◌∙◌}
use mathlib.Core.List.{List}
use lib.ListN.{length}
use Rattle.words.specs.Edition.{one}
use Rattle.block_log.specs.declared.Shared.{Shared}
use Rattle.block_log.specs.Refusals.{Reply}
use Rattle.block_log.specs.declared.Opened.{Opened}
use Rattle.block_log.specs.Opening.{open_refusal, opened}
use Rattle.points.specs.declared.Head.{Head}
use Rattle.points.specs.declared.Point.{Point}
use Rattle.points.specs.declared.Count.{Count}
use Rattle.points.specs.declared.Joined.{Joined}
use Rattle.points.specs.declared.Begun.{Begun}
use Rattle.points.specs.declared.Stepped.{Stepped}
use Rattle.points.specs.declared.Left.{Left}
use Rattle.points.specs.Calls.{joining, beginning, beginning_read, leaving}
use Rattle.points.specs.Stepping.{stepping, StepLeaves}
use Rattle.points.specs.Reading.{ReadLeaves, locating}
use Rattle.block_log.proofs.Replies.{done_none, opened-replies}
use Rattle.points.proofs.Replies.{locating-number}
use Rattle.recovery.specs.World.{serve}
use Rattle.recovery.specs.Claim.{Answered, NoFault}
use Rattle.recovery.specs.Served.{OpenServed, JoinServed, BeginServed, BeginReadServed, StepServed, LeaveServed, ReadServed, LocateServed}
use Rattle.recovery.proofs.Answered.{answered}
use Rattle.recovery.proofs.NoFault.{no-fault}

pub open-served : (words scratch : List ℕ) (r : Opened) → r ≡ opened one words scratch → OpenServed one words scratch r
unfolding OpenServed
open-served words scratch r e = (λ d. done_none (open_refusal one words scratch) (sym (opened-replies one words scratch) ∙ sym (ap reply e) ∙ d), rw e)
  where
    reply : Opened → Reply
    reply o = o.reply

module _ (words : List ℕ) (s : Shared) where
  pub join-served : (n : ℕ) (r : Joined) → r ≡ joining one words s n → JoinServed one words s n r
  unfolding JoinServed serve
  join-served n r e w a b = rw (e, a, b)

  pub begin-served : (p : Point) (offset : ℕ) (text : List ℕ) (r : Begun) → r ≡ beginning one words s p offset text
      → BeginServed one words s p offset text r
  unfolding BeginServed serve
  begin-served p offset text r e w n q h = rw (e, h.record_is, h.image, h.shared)

  pub begin-read-served : (p : Point) (offset size : ℕ) (r : Begun) → r ≡ beginning_read one words s p offset size
      → BeginReadServed one words s p offset size r
  unfolding BeginReadServed serve
  begin-read-served p offset size r e w n q h = rw (e, h.record_is, h.image, h.shared)

  pub step-served : (p : Point) (lent : List ℕ) (r : Stepped) (stored bytes : List ℕ) → StepLeaves words s p lent r stored bytes
      → StepServed one words s p lent r stored bytes
  unfolding StepServed serve
  step-served p lent r stored bytes l w n q h = record {
    answer = (stepping one words s p).bytes;
    handed = l.handed;
    served = rw (l.answers, l.stored, h.record_is, h.image, h.shared);
  }

  pub leave-served : (p : Point) (r : Left) → r ≡ leaving one words s p → LeaveServed one words s p r
  unfolding LeaveServed serve
  leave-served p r e w n q h = rw (e, h.record_is, h.image, h.shared)

  pub read-served : (head : Head) (table : List ℕ) (offset : ℕ) (buffer : List ℕ) (r : Count) (filled : List ℕ)
      → ReadLeaves words s head table offset buffer r filled → ReadServed one words s head table offset buffer r filled
  unfolding ReadServed Answered
  read-served head table offset buffer r filled e h n at =
      let f = (answered one h).1 n at.is_in in
      let g = rw (at.image, at.shared, at.head_is, at.table_is) at (f.counts offset (length buffer)) in
      let k = rw (at.image, at.shared, at.head_is, at.table_is) at (f.fills offset buffer) in
      (e.count ∙ g, e.bytes ∙ k)

  pub locate-served : (head : Head) (table : List ℕ) (v : ℕ) (r : Count) → r ≡ locating one words s head table v
      → LocateServed one words s head table v r
  unfolding LocateServed Answered NoFault locating
  locate-served head table v r e h n at =
      let f = (answered one h).1 n at.is_in in
      let safe = rw (at.image, at.shared, at.head_is, at.table_is) at ((no-fault one h).2 n v at.is_in) in (
        rw (e, locating-number one words s head table v) safe,
        λ q l k. rw e (rw (at.image, at.shared, at.head_is, at.table_is) at (f.locates v q l k)),
      )
