-- A record that is ready: a step of its write would not be refused. It stays so where the shared record stays fit, with its block count and its points,
-- and the image its length. Assumes nothing.
use Prim.Native.Nat.{ℕ, ◌≤◌}
use native.Mathlib.Omega.{arith}
use mathlib.Core.Path.{◌≡◌, refl, ◌∙◌}
use mathlib.Core.Bool.{true, false}
use mathlib.Core.List.{List}
use lib.ListN.{length}
use borrow.Author.Tests.{not-false, le-leb}
use Rattle.words.specs.Edition.{Edition, one, chain_max, file_end}
use Rattle.words.proofs.Logic.{all-every}
use Rattle.words.proofs.Choice.{choose-false}
use Rattle.block_log.specs.declared.Shared.{Shared}
use Rattle.points.specs.declared.Phase.{Phase}
use Rattle.points.specs.declared.Point.{Point}
use Rattle.points.specs.Record.{is_zeroing, run_words, is_idle, is_reading, is_writing, write_fits}
use Rattle.points.specs.Record.{range_fits, head_fits, all_below, fits, is_joined, unfit, file_at}
use Rattle.points.specs.Lent.{TextFits}
use Rattle.points.specs.Stepping.{step_refusal}
use Rattle.points.proofs.Phases.{is-writing, writing-busy, writing-apart}
use Rattle.points.proofs.RecordFacts.{SharedFits, PlaceFits, shared-facts, shared-fits, fits-place, fits-length, fits-write, fits-table}
use Rattle.points.proofs.RecordFacts.{RunFits, ZeroingFits, run-facts, write-zeroing-facts, write-position}
use Rattle.points.proofs.NotRefused.{step-shared, step_fits, step-joined, step-busy}
use Rattle.points.proofs.StepFacts.{under-way}
use Rattle.points.proofs.Kept.{FileFits, place-fits}

-- ---- what it is

-- a step of its write would not be refused
pub record Ready (E : Edition) (words : List ℕ) (s : Shared) (p : Point) : Type 0 where
  pub unrefused : step_refusal E words s p.head p.table ≡ 0
  pub unread : is_reading p.head.write.phase ≡ false

-- the same, test by test
pub record Tested (E : Edition) (words : List ℕ) (s : Shared) (p : Point) : Type 0 where
  pub shared : SharedFits E words s
  pub place : PlaceFits E s.blocks p.head.place
  pub file : FileFits E s.blocks (file_at p.head p.table)
  pub write : write_fits E s.blocks p.head.place p.head.write ≡ true
  pub writing : is_writing p.head.write.phase ≡ true
  pub joined : is_joined s p.head.number ≡ true

module _ {E : Edition} {words : List ℕ} {s : Shared} {p : Point} where
  pub tests : Ready E words s p → Tested E words s p
  tests r =
      let fit = not-false _ (step_fits E words s p r.unrefused) in
      let w = is-writing p.head.write.phase (step-busy E words s p r.unrefused) r.unread in
      record {
        shared = shared-facts E words s (step-shared E words s p r.unrefused);
        place = fits-place E s.blocks p.head p.table fit;
        file = record { size = fits-length E s.blocks p.head p.table fit; table = fits-table E s.blocks p.head p.table fit };
        write = fits-write E s.blocks p.head p.table fit w;
        writing = w;
        joined = not-false _ (step-joined E words s p r.unrefused);
      }

  module _ (t : Tested E words s p) where
    abbrev phase : Phase
    phase = p.head.write.phase

    fit-head : head_fits E s.blocks p.head ≡ true
    unfolding head_fits
    fit-head = all-every _ (
      place-fits E s.blocks p.head.place t.place,
      (
        le-leb p.head.length (file_end E) t.file.size,
        (
          choose-false (is_idle phase) true _ (writing-busy phase t.writing)
              ∙ choose-false (is_reading phase) (range_fits E p.head.write) _ (writing-apart phase t.writing) ∙ t.write,
          tt,
        ),
      ),
    )

    fit : fits E s.blocks p.head p.table ≡ true
    unfolding fits
    fit = all-every _ (fit-head, (t.file.table, tt))

    none : unfit E words s p.head p.table ≡ 0
    unfolding unfit
    none = rw (shared-fits E words s t.shared, fit, t.joined)

    pub of-tests : Ready E words s p
    of-tests = record { unrefused = under-way E words s p none (writing-busy phase t.writing); unread = writing-apart phase t.writing }

-- ---- the others

-- the image keeps its length, the shared record its block count and its points, and stays fit
pub record Kept (E : Edition) (words after : List ℕ) (s t : Shared) : Type 0 where
  pub length : length after ≡ length words
  pub blocks : t.blocks ≡ s.blocks
  pub joined : t.joined ≡ s.joined
  pub chain : (1 ≤ t.chain) × (t.chain ≤ chain_max)
  pub reported : all_below s.blocks t.reports ≡ true

pub kept-shared : {E : Edition} {words after : List ℕ} {s t : Shared} → Kept E words after s t → SharedFits E words s → SharedFits E after t
kept-shared k f =
    record {
      some-blocks = omega (arith, k.blocks, f.some-blocks);
      few-blocks = omega (arith, k.blocks, f.few-blocks);
      whole = rw (k.blocks, k.length) f.whole;
      some_chain = k.chain.0;
      few-chain = k.chain.1;
      reported = rw k.blocks k.reported;
    }

pub same_kept : {E : Edition} {words : List ℕ} {s : Shared} → SharedFits E words s → Kept E words words s s
same_kept f = record { length = refl; blocks = refl; joined = refl; chain = (f.some_chain, f.few-chain); reported = f.reported }

-- so a point that has no part in it stays ready
pub others-ready : {E : Edition} {words after : List ℕ} {s t : Shared} {q : Point} → Kept E words after s t → Ready E words s q → Ready E after t q
others-ready {E} {words} {after} {s} {t} {q} k r =
    let f = tests r in
    of-tests (record {
      shared = kept-shared k f.shared;
      place = rw k.blocks f.place;
      file = rw k.blocks f.file;
      write = rw k.blocks f.write;
      writing = f.writing;
      joined = rw k.joined f.joined;
    })

-- ---- what a ready record tells of its write

module _ {E : Edition} {words : List ℕ} {s : Shared} {p : Point} (r : Ready E words s p) where
  abbrev under : write_fits E s.blocks p.head.place p.head.write ≡ true
  under = (tests r).write

  pub ready-run : RunFits E s.blocks p.head.write
  ready-run = run-facts E s.blocks p.head.place p.head.write under

  pub ready-zeroing : is_zeroing p.head.write.phase ≡ true → ZeroingFits E s.blocks p.head.place p.head.write
  ready-zeroing z = write-zeroing-facts E s.blocks p.head.place p.head.write under z

  pub ready-position : is_zeroing p.head.write.phase ≡ false → p.head.write.position ≤ run_words E p.head.write
  ready-position z = omega (arith, write-position E s.blocks p.head.place p.head.write under z)

-- as the code's contracts ask for it
pub ready-text : {words : List ℕ} {s : Shared} {p : Point} → Ready one words s p → TextFits p.head.write
ready-text r = let t = (ready-run r).text in (t.some-text, t.few-text, t.ends-inside)
