-- A read's step as the code answers it: what the last step sees ahead, and a law for each exit. Assumes nothing.
use Prim.Native.Nat.{ℕ, zero, suc, ◌+◌, ◌-◌, ◌/◌, ◌≤◌, ◌<◌}
use native.Mathlib.Omega.{arith}
use mathlib.Core.Path.{◌≡◌, refl, sym, ◌∙◌, ap}
use mathlib.Core.Bool.{Bool, true, false, ◌||◌}
use mathlib.Core.List.{List, [], ◌∷◌, ◌++◌}
use lib.ListN.{length, take, drop, length-take}
use borrow.Author.Tests.{lt-ltb, le-ltb}
use Rattle.words.specs.Edition.{Edition, one}
use Rattle.words.specs.Logic.{Reason, ◌when◌, some_of, up_from}
use Rattle.words.specs.Memory.{Memory, memory}
use Rattle.block_log.specs.declared.Shared.{Shared}
use Rattle.block_log.specs.declared.Lookahead.{Lookahead}
use Rattle.block_log.specs.Entry.{covers}
use Rattle.block_log.specs.Look.{lookahead_of}
use Rattle.block_log.specs.Replay.{Mapped, replay_on}
use Rattle.block_log.specs.CatchUp.{Walk, ahead, broken, place_after}
use Rattle.points.specs.declared.Head.{Head}
use Rattle.points.specs.declared.Write.{Write}
use Rattle.points.specs.declared.Point.{Point}
use Rattle.points.specs.declared.Numbers.{Numbers}
use Rattle.points.specs.declared.LentStepped.{LentStepped}
use Rattle.points.specs.declared.plan.Reports.{Reports}
use Rattle.points.specs.declared.plan.Reports.TheVariants.{NoReport, Standing}
use Rattle.points.specs.declared.StepAnswer.{StepAnswer}
use Rattle.points.specs.declared.StepAnswer.TheVariants.{Moved, Refused, Copied, Bytes}
use Rattle.points.specs.declared.read_step.Ahead.{Ahead}
use Rattle.block_log.specs.declared.Refusal.{Refusal}
use Rattle.block_log.specs.Refusals.{Reply, Done, number, refusal}
use Rattle.block_log.specs.Opening.{number_of}
use Rattle.block_log.proofs.Replies.{ok-none, err-number, number-not-0, refusal-again}
use Rattle.std.specs.Prelude.{Err}
use Rattle.points.specs.Record.{no_write, no_text, head_of, is_idle, is_reading, run_first, run_blocks, range_words, file_at, point_of, unfit, caught_up}
use Rattle.points.specs.Search.{shared_of, Known}
use Rattle.points.specs.Plan.{Outcome, answered, untouched}
use Rattle.points.specs.Calls.{new_read}
use Rattle.points.specs.ReadSteps.{copied_on, with_word, covered, lengthened, copy_word, begin_again, answer_bytes, finish, read_on}
use Rattle.points.specs.Stepping.{step_refusal, stepping, bytes_after}
use Rattle.points.specs.Lent.{ReadTells, ahead_of, TextFits}
use Rattle.points.proofs.Spans.{lies}
use Rattle.points.proofs.Phases.{reading-busy}
use Rattle.points.proofs.Fits.{any_reports, any-known}
use Rattle.points.proofs.RecordFacts.{shared-facts, fits-range}
use Rattle.points.proofs.RecordReasons.{unfit-before, fit-shared, fit-record, fit-goes-on}
use Rattle.points.proofs.ReadCases.{caught, disturbed, read-refused, read_goes, copy-on, finish-on, stop-on, again-on, bytes_on}

-- ---- what is seen ahead

-- one to three blocks: the first, the last, and the one between
of_one : (a : Bool) → (a || a) || a ≡ a || false
of_one true = refl
of_one false = refl

of_two : (a b : Bool) → (a || b) || b ≡ a || (b || false)
of_two true b = refl
of_two false true = refl
of_two false false = refl

of_three : (a b c : Bool) → (a || c) || b ≡ a || (b || (c || false))
of_three true b c = refl
of_three false true true = refl
of_three false true false = refl
of_three false false true = refl
of_three false false false = refl

pub few-blocks : (p : ℕ → Bool) (v n : ℕ) → 1 ≤ n → n ≤ 3 → (p v || p (v + n - 1)) || p (v + n / 2) ≡ some_of p (up_from v n)
few-blocks p v zero l h = absurd (omega arith)
few-blocks p v (suc zero) l h =
    let a : v + 1 - 1 ≡ v = omega arith in
    let b : v + 1 / 2 ≡ v = omega arith in
    rw (a, b) (of_one (p v))
few-blocks p v (suc (suc zero)) l h =
    let a : v + 2 - 1 ≡ suc v = omega arith in
    let b : v + 2 / 2 ≡ suc v = omega arith in
    rw (a, b) (of_two (p v) (p (suc v)))
few-blocks p v (suc (suc (suc zero))) l h =
    let a : v + 3 - 1 ≡ suc (suc v) = omega arith in
    let b : v + 3 / 2 ≡ suc v = omega arith in
    rw (a, b) (of_three (p v) (p (suc v)) (p (suc (suc v))))
few-blocks p v (suc (suc (suc (suc n)))) l h = absurd (omega arith)

-- two walks show it all
pub both-looks :
    (E : Edition) (blocks v n : ℕ) (h : Head) (walk : Walk) (edges middle : Lookahead) → 1 ≤ h.write.size → h.write.size ≤ 1024
    → v ≡ run_first E h.write → n ≡ run_blocks E h.write → edges ≡ lookahead_of E blocks v (v + n - 1) walk
    → middle ≡ lookahead_of E blocks (v + n / 2) v walk
    → record { broken = edges.broken; covered = (edges.first || edges.last) || middle.first; place = edges.place } ≡ ahead_of E blocks h walk
unfolding lookahead_of covered
both-looks E blocks v n h walk edges middle some few is_first is_count e f =
    let p : ℕ → Bool = λ v. some_of (covers v) walk.entries in
    let w = h.write in
    let all = few-blocks p (run_first E w) (run_blocks E w) (omega arith) ((lies E w.offset w.size some).few few) in
    rw (e, f, is_first, is_count)
    (ap (λ (b : Bool). record { broken = broken E blocks walk; covered = b; place = place_after walk }) all)

-- ---- what is left

-- by an outcome that is the same whatever the map holds, and whatever reports are known by the numbers
pub told-by :
    {outcome out : Shared → Outcome} {n : Numbers} {lent : List ℕ} {left : LentStepped} {table text bytes : List ℕ}
    → ((taken reports : List ℕ) → Known n reports → outcome (shared_of n taken reports) ≡ out (shared_of n taken reports)) → ReadTells out n lent left table text bytes
    → ReadTells outcome n lent left table text bytes
told-by {lent = lent} e r =
    record {
      answers = λ taken reports known. r.answers taken reports known ∙ sym (ap answered (e taken reports known));
      unstored = λ taken reports known. ap (λ (o : Outcome). o.store) (e taken reports known) ∙ r.unstored taken reports known;
      handed = λ taken reports known.
          r.handed taken reports known ∙ sym (ap (λ (o : Outcome). bytes_after o.bytes lent) (e taken reports known));
      lengthens = r.lengthens;
      place = r.place;
    }

-- the record, the head of which is answered; a step that leaves everything as it was
abbrev leaving : StepAnswer → Head → Reports → LentStepped
leaving step head reports = record { step = step; head = head; word = 0; reports = reports }

untouched-tells : (n : Numbers) (head : Head) (table text lent : List ℕ) (step : StepAnswer)
    → ReadTells (λ s. untouched s (point_of head table text) step) n lent (leaving step head NoReport) table text lent
untouched-tells n head table text lent step = record {
  answers = λ taken reports known. refl;
  unstored = λ taken reports known. refl;
  handed = λ taken reports known. refl;
  lengthens = tt;
  place = refl;
}

-- ---- the last step

-- what its code has learnt: what is ahead, and what the record is with it taken in
module _ (E : Edition) (m : Memory) (n : Numbers) (head : Head) (table text lent : List ℕ) (seen : Ahead)
    (is_seen : seen ≡ ahead_of E n.blocks head (ahead E m n.blocks head.place)) where
  abbrev p : Point
  p = point_of head table text

  abbrev walk : Walk
  walk = ahead E m n.blocks head.place

  is-broken : seen.broken ≡ broken E n.blocks walk
  is-broken = ap (λ (a : Ahead). a.broken) is_seen

  seen-sound : seen.broken ≡ false → broken E n.blocks walk ≡ false
  seen-sound e = sym is-broken ∙ e

  pub finish-stops : seen.broken ≡ true → ReadTells (λ s. finish E m s p) n lent (leaving (Refused (refusal 18)) head NoReport) table text lent
  finish-stops e =
      told-by (λ taken reports known. stop-on E m (shared_of n taken reports) p (sym is-broken ∙ e)) (untouched-tells n head table text lent (Refused (refusal 18)))

  module _ (later : List ℕ) (size : ℕ) (longer : Bool) (few : n.blocks ≤ 1024) (sound : seen.broken ≡ false)
      (is_later : n.blocks ≤ 1024 → broken E n.blocks walk ≡ false
      → record { table = later; size = size } ≡ replay_on E (file_at head table) walk.entries)
      (is_longer : longer ≡ lengthened head.write head.length size) where
    is-caught : caught_up E walk p ≡ point_of (head_of head.number size seen.place head.write) later text
    unfolding caught_up
    is-caught = rw is_seen (sym (ap at_tail (is_later few (seen-sound sound))))
      where
        at_tail : Mapped → Point
        at_tail f = point_of (head_of head.number f.size (place_after walk) head.write) f.table text

    is-disturbed : (taken reports : List ℕ) → (seen.covered || longer) ≡ disturbed E m (shared_of n taken reports) p
    is-disturbed taken reports = rw (is_longer, is-caught) (ap (λ (a : Ahead). a.covered || lengthened head.write head.length size) is_seen)

    pub finish-again :
        (seen.covered || longer) ≡ true → (left : Head) (cleared : List ℕ)
        → left ≡ head_of head.number size seen.place (new_read head.write.offset head.write.size) → cleared ≡ no_text
        → ReadTells (λ s. finish E m s p) n lent (leaving Moved left Standing) later cleared lent
    unfolding begin_again
    finish-again d left cleared is_left is_cleared =
        told-by {out = λ s. begin_again s p (caught E m s p)}
        (λ taken reports known. again-on E m (shared_of n taken reports) p (seen-sound sound) (sym (is-disturbed taken reports) ∙ d))
        (record {
          answers = λ taken reports known. rw (is-caught, is_left, is_cleared);
          unstored = λ taken reports known. refl;
          handed = λ taken reports known. refl;
          lengthens = tt;
          place = refl;
        })

    pub finish-bytes :
        (seen.covered || longer) ≡ false → (left : Head) (cleared bytes : List ℕ)
        → left ≡ head_of head.number size seen.place no_write → cleared ≡ no_text → head.write.size ≤ length text
        → bytes ≡ take head.write.size text ++ drop head.write.size lent
        → ReadTells (λ s. finish E m s p) n lent (leaving (Bytes head.write.size) left Standing) later cleared bytes
    unfolding answer_bytes
    finish-bytes d left cleared bytes is_left is_cleared h is_bytes =
        let l : length (take head.write.size text) ≡ head.write.size = simp length-take (omega arith) in
        told-by {out = λ s. answer_bytes s p (caught E m s p)}
        (λ taken reports known. bytes_on E m (shared_of n taken reports) p (seen-sound sound) (sym (is-disturbed taken reports) ∙ d))
        (record {
          answers = λ taken reports known. rw (is-caught, is_left, is_cleared);
          unstored = λ taken reports known. refl;
          handed = λ taken reports known. rw l is_bytes;
          lengthens = tt;
          place = refl;
        })

-- ---- a step

-- what a read that is not refused knows of its record
pub record ReadFits (n : Numbers) (w : Write) : Type 0 where
  pub text : TextFits w
  pub blocks : n.blocks ≤ 1024

module _ (words : List ℕ) (n : Numbers) (head : Head) (table : List ℕ) (reading : is_reading head.write.phase ≡ true)
    (r : Reply) (is_reason : (taken reports : List ℕ) → Known n reports → number_of r ≡ unfit one words (shared_of n taken reports) head table) where
  abbrev more : List Reason
  more = 15 when is_idle head.write.phase ∷ []

  pub step-refused : (text lent : List ℕ) (e : Refusal) → r ≡ Err e
      → ReadTells (λ s. stepping one words s (point_of head table text)) n lent (leaving (Refused e) head NoReport) table text lent
  unfolding step_refusal
  step-refused text lent e i =
      told-by (λ taken reports known. down (number e) refl (err-number (is_reason taken reports known) i)) (untouched-tells n head table text lent (Refused e))
    where
      down : {s : Shared} (k : ℕ) → k ≡ number e → k ≡ unfit one words s head table
          → stepping one words s (point_of head table text) ≡ untouched s (point_of head table text) (Refused e)
      down zero f g = absurd (number-not-0 e (sym f))
      down {s} (suc k) f g =
          read-refused one words s (point_of head table text) reading k (unfit-before one words s head table more k (sym g))
          ∙ ap (λ (x : Refusal). untouched s (point_of head table text) (Refused x)) (ap refusal f ∙ refusal-again e)

  module _ (fit : r ≡ Done) where
    none-holds : (taken reports : List ℕ) → Known n reports → unfit one words (shared_of n taken reports) head table ≡ 0
    none-holds taken reports known = ok-none (is_reason taken reports known) fit

    goes : (text taken reports : List ℕ) → Known n reports → let s = shared_of n taken reports in let p = point_of head table text in
        stepping one words s p ≡ read_on one (memory one words) s p
    unfolding step_refusal
    goes text taken reports known =
        read_goes one words (shared_of n taken reports) (point_of head table text) reading
        (fit-goes-on one words (shared_of n taken reports) head table (none-holds taken reports known) more ∙ rw (reading-busy head.write.phase reading))

    pub read_fits : ReadFits n head.write
    read_fits =
        let e = none-holds [] (any_reports n) (any-known n) in
        let t = (fits-range one n.blocks head table (fit-record one words (shared_of n [] (any_reports n)) head table e) reading).text in
        let f = shared-facts one words (shared_of n [] (any_reports n)) (fit-shared one words (shared_of n [] (any_reports n)) head table e) in
        record { text = (t.some-text, t.few-text, t.ends-inside); blocks = f.few-blocks }

    pub step-copies :
        (text lent copied : List ℕ) (left : Head) → head.write.position < range_words head.write
        → left ≡ head_of head.number head.length head.place (copied_on head.write)
        → copied ≡ with_word one (memory one words) (file_at head table) head.write text
        → ReadTells (λ s. stepping one words s (point_of head table text)) n lent (leaving Copied left NoReport) table copied lent
    unfolding copy_word
    step-copies text lent copied left h is_left is_copied =
        let m = memory one words in
        let p = point_of head table text in
        told-by {out = λ s. copy_word one m s p} (λ taken reports known. goes text taken reports known ∙ copy-on one m (shared_of n taken reports) p (lt-ltb _ _ h))
        (record {
          answers = λ taken reports known. rw (is_left, is_copied);
          unstored = λ taken reports known. refl;
          handed = λ taken reports known. refl;
          lengthens = tt;
          place = refl;
        })

    pub step-finishes :
        {left : LentStepped} {later kept bytes : List ℕ} (text lent : List ℕ) → range_words head.write ≤ head.write.position
        → ReadTells (λ s. finish one (memory one words) s (point_of head table text)) n lent left later kept bytes
        → ReadTells (λ s. stepping one words s (point_of head table text)) n lent left later kept bytes
    step-finishes text lent h r =
        let m = memory one words in
        let p = point_of head table text in
        told-by (λ taken reports known. goes text taken reports known ∙ finish-on one m (shared_of n taken reports) p (le-ltb _ _ h)) r
