-- A record that fits goes on fitting: a beginning that is done leaves a ready record, and so does a step after which the write goes on; neither takes it
-- from another point. So a point is tested once, where its write begins. Assumes nothing.
use Prim.Native.Nat.{ℕ, zero, suc, ◌*◌, ◌<◌}
use native.Mathlib.Omega.{arith}
use mathlib.Core.Path.{◌≡◌, refl, sym, ap, subst, ◌∙◌}
use mathlib.Core.Bool.{true}
use mathlib.Core.List.{List}
use lib.ListN.{length}
use borrow.Author.Tests.{not-false, le-leb}
use Rattle.words.specs.Edition.{Edition}
use Rattle.words.specs.Memory.{memory, after}
use Rattle.words.specs.BlockMap.{set_run}
use Rattle.words.proofs.Logic.{and_both, all-every}
use Rattle.words.proofs.Tests.{nonzero, not-no}
use Rattle.words.proofs.Choice.{chosen-zero, chosen-suc}
use Rattle.block_log.specs.declared.Shared.{Shared}
use Rattle.block_log.specs.CatchUp.{Walk, ahead, place_after}
use Rattle.block_log.specs.Refusals.{Done}
use Rattle.block_log.specs.Replay.{replay_on}
use Rattle.block_log.proofs.CatchUp.{unbroken}
use Rattle.points.specs.declared.Head.{Head}
use Rattle.points.specs.declared.Point.{Point}
use Rattle.points.specs.declared.Begun.{Begun}
use Rattle.points.specs.declared.plan.Reports.{Reports}
use Rattle.points.specs.declared.plan.Reports.TheVariants.{NoReport, Standing, Linked}
use Rattle.points.specs.declared.plan.Plan.{Plan}
use Rattle.points.specs.Record.{write_fits}
use Rattle.points.specs.Record.{fits, file_at, span, inside, point_of, writing, caught_up}
use Rattle.points.specs.Search.{search, with_taken, reporting_place}
use Rattle.points.specs.Calls.{new_write, text_of, begin_refusal, begin_read_refusal, beginning}
use Rattle.points.specs.Plan.{Outcome, reported, carried_out}
use Rattle.points.specs.Stepping.{write_on, stepping}
use Rattle.points.specs.Serving.{step_goes_on}
use Rattle.points.specs.Lent.{Lengthens}
use Rattle.points.proofs.Free.{search-spec}
use Rattle.points.proofs.RecordFacts.{SharedFits, PlaceFits, shared-facts, fits-place, fits-length, fits-table}
use Rattle.points.proofs.NotRefused.{begin-either, begin-shared, begin-fits, begin-joined}
use Rattle.points.proofs.NotRefused.{begin-text, begin-end, begin-sound, begin-found}
use Rattle.points.proofs.StepFacts.{goes_on}
use Rattle.points.proofs.ReadCases.{write-kind}
use Rattle.points.proofs.Kept.{FileFits, after-length, below_set, replay-fits, tail-fits}
use Rattle.points.proofs.Ready.{Ready, Tested, Kept, tests, of-tests, kept-shared, same_kept, others-ready}
use Rattle.points.proofs.Going.{Keeps, on-keeps}

-- ---- the step

reported-kept :
    (E : Edition) (words after : List ℕ) (s : Shared) (plan : Reports) (h : Head) (map : List ℕ)
    → SharedFits E words s → length after ≡ length words → h.place.block < s.blocks → Lengthens plan s.chain
    → Kept E words after s (reported plan h (with_taken s map))
reported-kept E words after s NoReport h map f l b c =
    record { length = l; blocks = refl; joined = refl; chain = (f.some_chain, f.few-chain); reported = f.reported }
reported-kept E words after s Standing h map f l b c =
    record {
      length = l;
      blocks = refl;
      joined = refl;
      chain = (f.some_chain, f.few-chain);
      reported = below_set s.blocks s.reports h.number h.place.block f.reported b;
    }
reported-kept E words after s Linked h map f l b c =
    record {
      length = l;
      blocks = refl;
      joined = refl;
      chain = (omega arith, omega (arith, c));
      reported = below_set s.blocks s.reports h.number h.place.block f.reported b;
    }

module _ (E : Edition) (words : List ℕ) (s : Shared) (p : Point) (plan : Plan) (f : Tested E words s p) (k : Keeps E words s p plan) where
  abbrev out : Outcome
  out = carried_out E (memory E words) s p plan

  carried-kept : Kept E words (after E words out.store) s out.shared
  unfolding carried_out
  carried-kept = reported-kept E words _ s plan.reports _ _ f.shared (after-length E words out.store) k.block k.chain

  carried-ready : step_goes_on out.step ≡ true → Ready E (after E words out.store) out.shared out.point
  unfolding carried_out
  carried-ready e =
      let g = k.goes e in
      let c = carried-kept in
      of-tests (record {
        shared = kept-shared c f.shared;
        place = rw c.blocks g.place;
        file = rw c.blocks g.file;
        write = rw c.blocks g.write;
        writing = g.writing;
        joined = rw c.joined f.joined;
      })

module _ {E : Edition} {words : List ℕ} {s : Shared} {p : Point} (r : Ready E words s p) where
  -- the step of a record that is ready: what it does is carried out
  pub ready-step : stepping E words s p ≡ carried_out E (memory E words) s p (write_on E (memory E words) s p)
  ready-step = write-kind E words s p r.unread ∙ ap (carried_out E (memory E words) s p) (goes_on E words s p r.unrefused)

  abbrev o : Outcome
  o = stepping E words s p

  -- what all share is kept
  pub step_kept : Kept E words (after E words o.store) s o.shared
  step_kept = subst (λ (x : Outcome). Kept E words (after E words x.store) s x.shared) (sym ready-step)
      (carried-kept E words s p (write_on E (memory E words) s p) (tests r) (on-keeps E words s p (tests r)))

  pub step-others : {q : Point} → Ready E words s q → Ready E (after E words o.store) o.shared q
  step-others q = others-ready step_kept q

  pub step-ready : step_goes_on o.step ≡ true → Ready E (after E words o.store) o.shared o.point
  step-ready = subst (λ (x : Outcome). step_goes_on x.step ≡ true → Ready E (after E words x.store) x.shared x.point) (sym ready-step)
      (carried-ready E words s p (write_on E (memory E words) s p) (tests r) (on-keeps E words s p (tests r)))

-- ---- the beginning

module _ (E : Edition) (words : List ℕ) (s : Shared) (p : Point) (offset : ℕ) (text : List ℕ) where
  abbrev refusal : ℕ
  refusal = begin_refusal E words s p.head p.table offset (length text)

  abbrev begun : Begun
  begun = beginning E words s p offset text

  abbrev tail : Walk
  tail = ahead E (memory E words) s.blocks p.head.place

  abbrev run : ℕ
  run = search s (span E offset (length text))

  module _ (e : refusal ≡ 0) where
    either : begin_read_refusal E words s p.head p.table offset (length text) ≡ 0
    either = begin-either E words s p offset (length text) e

    first-shared : SharedFits E words s
    first-shared = shared-facts E words s (begin-shared E words s p offset (length text) either)

    first-fit : fits E s.blocks p.head p.table ≡ true
    first-fit = not-false _ (begin-fits E words s p offset (length text) either)

    at_tail : PlaceFits E s.blocks (place_after tail)
    at_tail = tail-fits E words s.blocks p.head.place (fits-place E s.blocks p.head p.table first-fit)

    new-file : FileFits E s.blocks (replay_on E (file_at p.head p.table) tail.entries)
    new-file = replay-fits E s.blocks tail.entries (file_at p.head p.table)
        (unbroken E s.blocks tail (begin-sound E words s p offset (length text) either)).legal
        (record {
          size = fits-length E s.blocks p.head p.table first-fit;
          table = fits-table E s.blocks p.head p.table first-fit;
        })

    new-fits : write_fits E s.blocks (place_after tail) (new_write offset (length text) run) ≡ true
    unfolding write_fits
    new-fits =
        let found = nonzero run (begin-found E words s p offset (length text) e) in
        let n = span E offset (length text) in
        let in_image_lem : inside s.blocks run n ≡ true =
        and_both _ _ (le-leb 1 run (omega (arith, found))) (le-leb _ _ (search-spec s n found).in_image) in
        all-every _ (
          not-no _ (begin-text E words s p offset (length text) either),
          (not-no _ (begin-end E words s p offset (length text) either), (in_image_lem, (le-leb 0 (n * E.block_words) (omega arith), tt))),
        )

    abbrev left : Begun
    left =
        let c = caught_up E tail p in
        record {
          reply = Done;
          shared = reporting_place c.head (with_taken s (set_run true s.taken run (span E offset (length text))));
          point = point_of (writing c.head (new_write offset (length text) run)) c.table (text_of text);
        }

    done : begun ≡ left
    unfolding beginning
    done = chosen-zero refusal left _ e

    left-kept : Kept E words words s left.shared
    unfolding caught_up
    left-kept = reported-kept E words words s Standing (caught_up E tail p).head _ first-shared refl at_tail.block_inside tt

    left-ready : Ready E words left.shared left.point
    unfolding caught_up
    left-ready =
        of-tests (record {
          shared = kept-shared left-kept first-shared;
          place = at_tail;
          file = new-file;
          write = new-fits;
          writing = refl;
          joined = not-false _ (begin-joined E words s p offset (length text) either);
        })

    done-kept : Kept E words words s begun.shared
    done-kept = subst (λ (b : Begun). Kept E words words s b.shared) (sym done) left-kept

    -- a write that is begun is ready
    pub begin-ready : Ready E words begun.shared begun.point
    begin-ready = subst (λ (b : Begun). Ready E words b.shared b.point) (sym done) left-ready

  refused-same : (k : ℕ) → refusal ≡ suc k → begun.shared ≡ s
  unfolding beginning
  refused-same k e = ap (λ (b : Begun). b.shared) (chosen-suc refusal k _ _ e)

  -- what all share is kept, also where the beginning is refused
  pub begin-kept : SharedFits E words s → Kept E words words s begun.shared
  begin-kept f = go refusal refl
    where
      go : (k : ℕ) → refusal ≡ k → Kept E words words s begun.shared
      go zero e = done-kept e
      go (suc k) e = subst (Kept E words words s) (sym (refused-same k e)) (same_kept f)

  pub begin-others : {q : Point} → Ready E words s q → Ready E words begun.shared q
  begin-others r = others-ready (begin-kept (tests r).shared) r
