-- The ways out of each call: refused where the record's numbers are none, else as the call with the record answers. Assumes nothing.
use Prim.Native.Nat.{ℕ}
use mathlib.Core.Path.{◌≡◌, sym, ◌∙◌, ap}
use mathlib.Core.Bool.{Bool, true, false, not}
use mathlib.Core.List.{List}
use borrow.Author.Tests.{not-true, not-false}
use Rattle.words.specs.Edition.{one}
use Rattle.words.specs.Memory.{after}
use Rattle.words.proofs.Choice.{choose-true, choose-false}
use Rattle.block_log.specs.declared.Shared.{Shared}
use Rattle.block_log.specs.Opening.{number_of}
use Rattle.points.specs.declared.Head.{Head}
use Rattle.points.specs.declared.Count as counted
use Rattle.points.specs.declared.Numbers.{Numbers}
use Rattle.points.specs.declared.Point.{Point}
use Rattle.points.specs.declared.Joined.{Joined}
use Rattle.points.specs.declared.Begun.{Begun}
use Rattle.points.specs.declared.Stepped.{Stepped}
use Rattle.points.specs.declared.Left.{Left}
use Rattle.points.specs.declared.LentBegun.{LentBegun}
use Rattle.points.specs.declared.LentStepped.{LentStepped}
use Rattle.points.specs.Record.{bad_shared, point_of}
use Rattle.points.specs.Calls.{joining, beginning, beginning_read, leaving}
use Rattle.points.specs.Plan.{Outcome, reported, stored_at}
use Rattle.points.specs.Stepping.{stepping, bytes_after}
use Rattle.points.specs.Search.{shared_of, Known}
use Rattle.points.specs.Lent.{StepTells, begun_shared, begun_of, stepped_of}
use Rattle.points.specs.Reading.{ReadLeaves, locating}
use Rattle.c_lent.specs.declared.Answer.{Answer}
use Rattle.c_lent.specs.declared.Count.{Count}
use Rattle.c_lent.specs.Numbers.{answer_numbers, count_numbers, head_numbers, head_from, is_known, shared_numbers, reports_from, lead_from, shared_from}
use Rattle.c_lent.specs.Numbers.{SharedLent, PointLent, shared_as, shared_in, lend_shared, lend_point}
use Rattle.c_lent.specs.Calls.{StepLeft, left, point_left, step_left, shared_left, read_left, unknown, if_known}
use Rattle.c_lent.proofs.Shared.{begun-taken, reported-taken}
use Rattle.c_lent.specs.Calls.{join_for, begin_for, begin_read_for, step_for, leave_for, read_for, locate_for}

module _ (words shared taken : List ℕ) where
  -- why a record is refused whose numbers are none
  pub unknown-10 : bad_shared one words (shared_from shared taken) ≡ true → 10 ≡ unknown words shared taken
  unknown-10 e = rw e

  pub unknown-11 : bad_shared one words (shared_from shared taken) ≡ false → 11 ≡ unknown words shared taken
  unknown-11 e = rw e

-- what the code's test b says of a fact k
module _ {b k : Bool} (e : b ≡ k) where
  pub tests-none : not b ≡ true → k ≡ false
  tests-none t = sym e ∙ not-true _ t

  pub tests-known : not b ≡ false → k ≡ true
  tests-known t = sym e ∙ not-false _ t

-- a point's record whose parts are these
abbrev point_as : List ℕ → List ℕ → List ℕ → PointLent
point_as head table text = record { head = head; table = table; text = text }

-- a shared record's reports
abbrev reports_in : SharedLent → List ℕ
reports_in s = reports_from s.numbers

pub join-as :
    (words : List ℕ) (s : SharedLent) (number : ℕ) (x : Shared) → x ≡ shared_in s → (j : Joined) → j ≡ joining one words x number
    → (n : ℕ) → n ≡ number_of j.reply → (t : SharedLent) (hs : List ℕ) → t ≡ lend_shared j.shared → hs ≡ head_numbers j.point.head
    → left n t (point_as hs j.point.table j.point.text) ≡ join_for words s number
join-as words s number x ex j e n en t hs es eh = rw (en, es, eh, e, ex)

module _ (words : List ℕ) (s : SharedLent) (p : PointLent) where
  -- the numbers are none
  pub is_none :
      {X : Type 0} (served : X) (refused : ℕ → X) → is_known p.head ≡ false → (n : ℕ) → n ≡ unknown words s.numbers s.taken
      → refused n ≡ if_known words s p served refused
  unfolding if_known
  is_none served refused none n e = rw e (sym (choose-false (is_known p.head) _ _ none))

  -- they are a record's
  module _ (known : is_known p.head ≡ true) (h : Head) (eh : h ≡ head_from p.head) where
    is_known_lem : {X : Type 0} (served : X) (refused : ℕ → X) → served ≡ if_known words s p served refused
    unfolding if_known
    is_known_lem served refused = sym (choose-true (is_known p.head) _ _ known)

    -- with the numbers that the code hands on
    module _ (lead : Numbers) (el : lead ≡ lead_from s.numbers) where
      lead-known : Known lead (reports_in s)
      lead-known = rw el

      -- the shared record as it is left, with another map; what is reported has no part in the map
      shared-left :
          (xs taken : List ℕ) (by : Shared → Shared) → ((t : Shared) → (by t).taken ≡ t.taken)
          → ((map : List ℕ) → xs ≡ shared_numbers (by (shared_from s.numbers map))) → shared_as xs taken ≡ lend_shared (by (shared_of lead taken (reports_in s)))
      shared-left xs taken by et ex =
          let at : shared_from s.numbers taken ≡ shared_of lead taken (reports_in s) = rw el in
          ap (λ (ys : List ℕ). shared_as ys taken) (ex taken ∙ ap (λ (t : Shared). shared_numbers (by t)) at)
          ∙ ap (shared_as (shared_numbers (by (shared_of lead taken (reports_in s))))) (sym (et (shared_of lead taken (reports_in s))))

      pub step-known :
          (lent : List ℕ) (y : LentStepped) (taken table text image bytes : List ℕ)
          → ((reports : List ℕ) → Known lead reports → StepTells words (shared_of lead s.taken reports) (point_of h p.table p.text) lent
          (stepped_of lead y taken reports table text) image bytes y.word)
          → (a : Answer) → a ≡ answer_numbers y.step y.word → (hs : List ℕ) → hs ≡ head_numbers y.head
          → (xs : List ℕ) → ((map : List ℕ) → xs ≡ shared_numbers (reported y.reports y.head (shared_from s.numbers map)))
          → step_left a image (shared_as xs taken) (point_as hs table text) bytes ≡ step_for words s p lent
      step-known lent y taken table text image bytes tells a ea hs eh' xs ex =
          ap (λ (t : SharedLent). step_left a image t (point_as hs table text) bytes)
          (shared-left xs taken (reported y.reports y.head) (reported-taken y.reports y.head) ex)
          ∙ rw (ea, eh', e.place, e.leaves.stored, e.leaves.handed) (ap left_by e.leaves.answers ∙ rw (el, eh) (is_known_lem _ _))
        where
          x : Shared
          x = shared_of lead s.taken (reports_in s)

          q : Point
          q = point_of h p.table p.text

          o : Outcome
          o = stepping one words x q

          e : StepTells words x q lent (stepped_of lead y taken (reports_in s) table text) image bytes y.word
          e = tells (reports_in s) lead-known

          left_by : Stepped → StepLeft
          left_by z =
              step_left (answer_numbers z.step (stored_at one o.store)) (after one words o.store) (lend_shared z.shared) (lend_point z.point)
              (bytes_after o.bytes lent)

      -- a beginning, of a write and of a read
      begun-left :
          (y : LentBegun) (taken table text : List ℕ) (n : ℕ) → n ≡ number_of y.reply → (hs : List ℕ) → hs ≡ head_numbers y.head
          → (xs : List ℕ) → ((map : List ℕ) → xs ≡ shared_numbers (begun_shared y.reply y.head (shared_from s.numbers map)))
          → (b : Begun) → begun_of lead y taken (reports_in s) table text ≡ b
          → left n (shared_as xs taken) (point_as hs table text) ≡ point_left b.reply b.shared b.point
      begun-left y taken table text n en hs eh' xs ex b e =
          ap (λ (t : SharedLent). left n t (point_as hs table text))
          (shared-left xs taken (begun_shared y.reply y.head) (begun-taken y.reply y.head) ex)
          ∙ rw (en, eh') (ap (λ (x : Begun). point_left x.reply x.shared x.point) e)

      module _ (offset : ℕ) (y : LentBegun) (table text : List ℕ) (n : ℕ) (en : n ≡ number_of y.reply) (hs : List ℕ) (eh' : hs ≡ head_numbers y.head)
          (xs : List ℕ) (ex : (map : List ℕ) → xs ≡ shared_numbers (begun_shared y.reply y.head (shared_from s.numbers map))) where
        pub begin-known :
            (bytes taken : List ℕ)
            → ((reports : List ℕ) → Known lead reports → begun_of lead y taken reports table text
            ≡ beginning one words (shared_of lead s.taken reports) (point_of h p.table p.text) offset bytes)
            → left n (shared_as xs taken) (point_as hs table text) ≡ begin_for words s p offset bytes
        begin-known bytes taken e =
            begun-left y taken table text n en hs eh' xs ex _ (e (reports_in s) lead-known) ∙ rw (el, eh) (is_known_lem _ _)

        pub begin-read-known :
            (size : ℕ)
            → ((reports : List ℕ) → Known lead reports → begun_of lead y s.taken reports table text
            ≡ beginning_read one words (shared_of lead s.taken reports) (point_of h p.table p.text) offset size)
            → left n (shared_as xs s.taken) (point_as hs table text) ≡ begin_read_for words s p offset size
        begin-read-known size e =
            begun-left y s.taken table text n en hs eh' xs ex _ (e (reports_in s) lead-known) ∙ rw (el, eh) (is_known_lem _ _)

      pub read_known :
          (offset : ℕ) (buffer : List ℕ) (y : counted.Count) (r : Count) (bytes : List ℕ)
          → ((reports : List ℕ) → Known lead reports → ReadLeaves words (shared_of lead s.taken reports) h p.table offset buffer y bytes)
          → r ≡ count_numbers y → read_left r bytes ≡ read_for words s p offset buffer
      read_known offset buffer y r bytes leaves er =
          let e = leaves (reports_in s) lead-known in rw (er, e.count, e.bytes, el, eh) (is_known_lem _ _)

      pub locate-known :
          (block : ℕ) (y : counted.Count) (r : Count)
          → ((reports : List ℕ) → Known lead reports → y ≡ locating one words (shared_of lead s.taken reports) h p.table block)
          → r ≡ count_numbers y → r ≡ locate_for words s p block
      locate-known block y r e er = rw (er, e (reports_in s) lead-known, el, eh) (is_known_lem _ _)

    pub leave-known :
        (x : Shared) → x ≡ shared_in s → (y : Left) → y ≡ leaving one words x (point_of h p.table p.text)
        → (n : ℕ) → n ≡ number_of y.reply → (t : SharedLent) → t ≡ lend_shared y.shared
        → shared_left n t ≡ leave_for words s p
    leave-known x ex y e n en t es =
        rw (en, es) (ap (λ (l : Left). shared_left (number_of l.reply) (lend_shared l.shared)) e ∙ rw (ex, eh) (is_known_lem _ _))
