-- No fault: a joined point's call is refused, if at all, by a reason of its own: 15 to 17, 19 to 22. Its list of reasons is gone through once, by what the
-- invariant says of 10, 11, 14 and 18 (Calls.NotRefused); a step's plan by the ways that it may go. A point that is not joined meets 11 or 14.
use mathlib.Core.Path.{◌≡◌, refl, sym, ap, ◌∙◌, subst}
use mathlib.Core.List.{List, [], ◌∷◌, ◌++◌}
use mathlib.Core.Bool.{Bool, true, false, not}
use Prim.Native.Nat.{ℕ, zero, suc}
use lib.ListN.{length, get_or}
use lib.Dec.{leb, ltb, eqb}
use borrow.Author.Tests.{eqb-true}
use Rattle.words.specs.Edition.{Edition, file_blocks}
use Rattle.words.specs.Logic.{Reason, first, ◌when◌, is_zero}
use Rattle.words.specs.Memory.{Memory, memory}
use Rattle.block_log.specs.declared.Shared.{Shared}
use Rattle.block_log.specs.CatchUp.{ahead, broken}
use Rattle.points.specs.declared.Point.{Point}
use Rattle.points.specs.declared.plan.Plan.{Plan}
use Rattle.points.specs.Record.{is_joined, is_idle, is_reading, fits, bad_shared, bad_text, past_end, span, record_reasons, broken_ahead, unfit}
use Rattle.points.specs.Search.{search}
use Rattle.points.specs.Calls.{bad_first, join_refusal, begin_refusal, begin_read_refusal}
use Rattle.points.specs.Stepping.{ends_write, planned, stepping, step_refusal, write_on, fill, commit, zero_out, link, give_back, extend, give_up}
use Rattle.points.specs.Reading.{seen, locate_refusal}
use Rattle.points.specs.Plan.{Outcome}
use Rattle.points.specs.ReadSteps.{copy_word, begin_again, answer_bytes, read_on}
use Rattle.points.proofs.Phases.{reading-busy}
use Rattle.points.proofs.ReadCases.{read-refused, read_goes, each_read}
use Rattle.points.proofs.StepCases.{each-plan}
use Rattle.points.proofs.StepFacts.{goes_on, refused-on}
use Rattle.recovery.specs.World as W
use Rattle.recovery.specs.World.{Call, join, begin, begin_read, step, leave, handed, serve}
use Rattle.recovery.specs.Book.{Book}
use Rattle.recovery.specs.History.{calls_before, refusal, step_refused, is_fault, is_strange, by_joined}
use Rattle.recovery.specs.Claim.{NoFault}
use Rattle.words.proofs.Tests.{no_true}
use Rattle.recovery.proofs.Opening.Opens.{first_some, first-inside}
use Rattle.points.proofs.Replies.{step-answers, joining-number, beginning-number, beginning-read-number, leaving-number, step-number, ends-number}
use Rattle.recovery.proofs.Calls.Mapping.{Tied, handed-newest, handed-number}
use Rattle.recovery.proofs.Calls.NotRefused.{shared-ok, record-passed, step-on, not-broken}
use Rattle.recovery.proofs.Claim.{opens-enough, same_start, bytes_before}
use Rattle.recovery.proofs.Demand3.{after_tied}

-- ---- reasons: each fails, or is no fault

data Safe : List Reason → Type 0 where
  none : Safe []
  fails : {r : Reason} {rs : List Reason} → r.holds ≡ false → Safe rs → Safe (r ∷ rs)
  other : {r : Reason} {rs : List Reason} → is_fault r.number ≡ false → Safe rs → Safe (r ∷ rs)

safe-first : (rs : List Reason) → Safe rs → is_fault (first rs) ≡ false
safe-first [] none = refl
safe-first (r ∷ rs) (fails e s) = rw e (safe-first rs s)
safe-first (r ∷ rs) (other e s) = go r.holds refl (safe-first rs s)
  where
    go : (b : Bool) → r.holds ≡ b → is_fault (first rs) ≡ false → is_fault (first (r ∷ rs)) ≡ false
    go true x ih = rw x e
    go false x ih = rw x ih

-- ---- a step's plan

abbrev SafePlan : Plan → Type 0
SafePlan plan = is_fault (step_refused plan.step) ≡ false

not-fault : (k : ℕ) → ends_write k ≡ true → is_fault k ≡ false
not-fault k e = go (eqb k 20) refl
  where
    go : (b : Bool) → eqb k 20 ≡ b → is_fault k ≡ false
    go true x = rw (eqb-true k 20 x)
    go false x = let y : eqb k 21 ≡ true = rw x at e in rw (eqb-true k 21 y)

write-safe : (E : Edition) (m : Memory) (s : Shared) (p : Point) → broken E s.blocks (ahead E m s.blocks p.head.place) ≡ false
    → SafePlan (write_on E m s p)
unfolding fill commit zero_out link give_back extend give_up
write-safe E m s p sound = each-plan E m s p SafePlan (record {
  fills = λ k. refl;
  commits = refl;
  zeroes = λ z. refl;
  links = λ l. refl;
  gives_back = refl;
  extends = λ b. refl;
  gives_up = λ k e. rw (ends-number k e) (not-fault k e);
  stops = λ e. absurd (no_true e sound);
  moves = refl;
})

-- a read's step

abbrev SafeOutcome : Outcome → Type 0
SafeOutcome o = is_fault (step_refused o.step) ≡ false

read-safe : (E : Edition) (m : Memory) (s : Shared) (p : Point) → broken E s.blocks (ahead E m s.blocks p.head.place) ≡ false
    → SafeOutcome (read_on E m s p)
unfolding copy_word begin_again answer_bytes
read-safe E m s p sound = each_read E m s p SafeOutcome (record {
  copies = λ e. refl;
  stops = λ e. absurd (no_true e sound);
  begins-again = λ e f. refl;
  answers = λ e f. refl;
})

-- ---- the calls

module _ {E : Edition} {L : List ℕ} (w : W.World) (bk : Book) (h : Tied E L w bk) where
  abbrev I : List ℕ
  I = w.words

  abbrev s : Shared
  s = w.shared

  -- the reasons of beginning and of a step behind 10, 11 and 14
  abbrev begin_reasons_own : Point → ℕ → ℕ → List Reason → List Reason
  begin_reasons_own p o size more =
      15 when not (is_idle p.head.write.phase) ∷ 16 when bad_text size ∷ 17 when past_end E o size ∷ broken_ahead E I s p.head ∷ more

  abbrev begin_own : Point → ℕ → ℕ → List Reason
  begin_own p o size = begin_reasons_own p o size (19 when is_zero (search s (span E o size)) ∷ [])

  abbrev step_own : Point → List Reason
  step_own p = 15 when is_idle p.head.write.phase ∷ []

  join-safe : (n : ℕ) → is_fault (join_refusal E I s n) ≡ false
  unfolding join_refusal
  join-safe n =
      let found : bad_first s.blocks (memory E I) ≡ false = rw (first_some h.inv.core, first-inside h.inv.core) in
      safe-first (10 when bad_shared E I s ∷ 12 when ltb 31 n ∷ 13 when is_joined s n ∷ 18 when bad_first s.blocks (memory E I) ∷ [])
      (fails (shared-ok w bk h) (other refl (other refl (fails found none))))

  module _ (n : ℕ) (j : is_joined s n ≡ true) where
    abbrev p : Point
    p = w.newest n

    -- the reasons of a call behind 10, 11 and 14
    own-safe : (rs : List Reason) → Safe rs → is_fault (first (record_reasons E I s p.head p.table ++ rs)) ≡ false
    own-safe rs safe = ap is_fault (record-passed w bk h n j rs) ∙ safe-first rs safe

    begin-safe : (o size : ℕ) → is_fault (begin_refusal E I s p.head p.table o size) ≡ false
    unfolding begin_refusal
    begin-safe o size = own-safe (begin_own p o size) (other refl (other refl (other refl (fails (not-broken w bk h n j) (other refl none)))))

    leave-safe : is_fault (unfit E I s p.head p.table) ≡ false
    unfolding unfit
    leave-safe = own-safe [] none

    pub locate-safe : (v : ℕ) → is_fault (locate_refusal E I s p.head p.table v) ≡ false
    unfolding locate_refusal
    locate-safe v = own-safe
        (17 when leb file_blocks v ∷ broken_ahead E I s p.head ∷ 22 when is_zero (get_or (seen E I s p.head p.table).table v 0) ∷ [])
        (other refl (fails (not-broken w bk h n j) (other refl none)))

    idle-15 : is_idle p.head.write.phase ≡ true → step_refusal E I s p.head p.table ≡ 15
    unfolding step_refusal
    idle-15 e = record-passed w bk h n j (step_own p) ∙ rw e

    begin-read-safe : (o size : ℕ) → is_fault (begin_read_refusal E I s p.head p.table o size) ≡ false
    unfolding begin_read_refusal
    begin-read-safe o size = own-safe (begin_reasons_own p o size []) (other refl (other refl (other refl (fails (not-broken w bk h n j) none))))

    plan-safe : SafePlan (planned E I s p)
    plan-safe = go (is_idle p.head.write.phase) refl
      where
        go : (b : Bool) → is_idle p.head.write.phase ≡ b → SafePlan (planned E I s p)
        go true e = subst SafePlan (sym (refused-on E I s p 14 (idle-15 e))) refl
        go false e = subst SafePlan (sym (goes_on E I s p (step-on w bk h n j e))) (write-safe E (memory E I) s p (not-broken w bk h n j))

    step-safe : is_fault (step_refused (stepping E I s p).step) ≡ false
    step-safe = go (is_reading p.head.write.phase) refl
      where
        go : (b : Bool) → is_reading p.head.write.phase ≡ b → is_fault (step_refused (stepping E I s p).step) ≡ false
        go true r = subst SafeOutcome (sym (read_goes E I s p r (step-on w bk h n j (reading-busy p.head.write.phase r))))
            (read-safe E (memory E I) s p (not-broken w bk h n j))
        go false r = rw (step-answers E I s p r) plan-safe

  pub call-safe : (c : Call) → by_joined w c ≡ true → is_fault (refusal (serve E w c).event) ≡ false
  unfolding serve
  call-safe (join n) j = rw (joining-number E I s n) (join-safe n)
  call-safe (begin n q o text) j = rw (
    handed-newest w n q j,
    beginning-number E I s (w.newest n) o text,
  )
      (begin-safe n j o (length text))
  call-safe (begin_read n q o size) j = rw (
    handed-newest w n q j,
    beginning-read-number E I s (w.newest n) o size,
  )
      (begin-read-safe n j o size)
  call-safe (step n q) j = rw (handed-newest w n q j) (step-safe n j)
  call-safe (leave n q) j = rw (
    handed-newest w n q j,
    leaving-number E I s (w.newest n),
  )
      (leave-safe n j)

  -- a point that is not joined: its record does not fit, or fits and has its number
  module _ (n : ℕ) (q : Point) (apart : is_joined s n ≡ false) where
    abbrev y : Point
    y = handed w n q

    turned-away : (rs : List Reason) → is_strange (first (record_reasons E I s y.head y.table ++ rs)) ≡ true
    turned-away rs = go (fits E s.blocks y.head y.table) refl
      where
        stranger : is_joined s y.head.number ≡ false
        stranger = ap (is_joined s) (handed-number w n q apart) ∙ apart

        go : (b : Bool) → fits E s.blocks y.head y.table ≡ b → is_strange (first (record_reasons E I s y.head y.table ++ rs)) ≡ true
        go true e = rw (shared-ok w bk h, e, stranger)
        go false e = rw (shared-ok w bk h, e)

    leave-strange : is_strange (unfit E I s y.head y.table) ≡ true
    unfolding unfit
    leave-strange = turned-away []

    begin-strange : (o size : ℕ) → is_strange (begin_refusal E I s y.head y.table o size) ≡ true
    unfolding begin_refusal
    begin-strange o size = turned-away (begin_own y o size)

    refused-strange : is_strange (step_refusal E I s y.head y.table) ≡ true
    unfolding step_refusal
    refused-strange = turned-away (step_own y)

    begin-read-strange : (o size : ℕ) → is_strange (begin_read_refusal E I s y.head y.table o size) ≡ true
    unfolding begin_read_refusal
    begin-read-strange o size = turned-away (begin_reasons_own y o size [])

    step-strange : is_strange (step_refused (stepping E I s y).step) ≡ true
    step-strange = go (step_refusal E I s y.head y.table) refl (is_reading y.head.write.phase) refl
      where
        go : (k : ℕ) → step_refusal E I s y.head y.table ≡ k → (b : Bool) → is_reading y.head.write.phase ≡ b
            → is_strange (step_refused (stepping E I s y).step) ≡ true
        go zero e b r = let z : is_strange 0 ≡ true = rw e at refused-strange in absurd (no_true z refl)
        go (suc k) e true r = rw (read-refused E I s y r k e, step-number E I s y k e) (rw e at refused-strange)
        go (suc k) e false r = rw (step-answers E I s y r, refused-on E I s y k e, step-number E I s y k e) (rw e at refused-strange)

  pub call-strange : (c : Call) → by_joined w c ≡ false → is_strange (refusal (serve E w c).event) ≡ true
  unfolding serve
  call-strange (join n) j = absurd (no_true refl j)
  call-strange (begin n q o text) j =
      rw (beginning-number E I s (handed w n q) o text)
      (begin-strange n q j o (length text))
  call-strange (begin_read n q o size) j =
      rw (beginning-read-number E I s (handed w n q) o size)
      (begin-read-strange n q j o size)
  call-strange (step n q) j = step-strange n q j
  call-strange (leave n q) j = rw (leaving-number E I s (handed w n q)) (leave-strange n q j)

pub no-fault : (E : Edition) → NoFault E
unfolding NoFault
no-fault E h =
    let t = after_tied E h.words (opens-enough h) (calls_before h) (bytes_before h) in
    rw (same_start h) (call-safe _ _ t, call-strange _ _ t, λ p v j. locate-safe _ _ t p j v)
