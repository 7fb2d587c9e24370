-- A step that is not refused: what it knows of its records, as facts on numbers; and which definition each way through the code stands for.
use Prim.Native.Nat.{ℕ, zero, suc, ◌+◌, ◌-◌, ◌≤◌, ◌<◌}
use native.Mathlib.Omega.{arith}
use mathlib.Core.Path.{◌≡◌, refl, sym, ap, ◌∙◌}
use mathlib.Core.Bool.{true, false, ◌&&◌}
use mathlib.Core.List.{List, [], ◌∷◌}
use borrow.Author.Tests.{lt-ltb, le-ltb, le-leb, lt-leb, eq-eqb, ne_eqb, not-false}
use Rattle.words.specs.Edition.{Edition, one, chain_max}
use Rattle.words.specs.Logic.{is_zero, first, ◌when◌}
use Rattle.words.specs.Memory.{Memory, memory, word_at}
use Rattle.words.proofs.Logic.{and_both}
use Rattle.words.proofs.Tests.{is-zero, not-zero}
use Rattle.words.proofs.Choice.{chosen-zero, chosen-suc}
use Rattle.block_log.specs.declared.Shared.{Shared}
use Rattle.block_log.specs.declared.Lookahead.{Lookahead}
use Rattle.block_log.specs.Chain.{next_index}
use Rattle.block_log.specs.CatchUp.{ahead}
use Rattle.block_log.specs.Look.{lookahead_of}
use Rattle.points.specs.declared.Head.{Head}
use Rattle.points.specs.declared.Point.{Point}
use Rattle.points.specs.declared.Numbers.{Numbers}
use Rattle.points.specs.declared.StepAnswer.TheVariants.{Moved}
use Rattle.points.specs.declared.plan.Reads.TheVariants.{AllAhead}
use Rattle.points.specs.declared.plan.Frees.TheVariants.{NoBlock}
use Rattle.points.specs.declared.plan.Reports.TheVariants.{Standing}
use Rattle.points.specs.Record.{run_first, run_blocks, first_edge, last_edge, run_words, is_idle}
use Rattle.points.specs.Record.{is_zeroing, is_reading, is_writing, is_joined, fits, unfit, point_of}
use Rattle.points.specs.Fill.{next_word}
use Rattle.points.specs.Search.{shared_of, search}
use Rattle.points.specs.Plan.{resting}
use Rattle.points.specs.Stepping.{refill, refill_after, refused, commit, give_up, extend, move_on}
use Rattle.points.specs.Stepping.{at_end, committing, fill, filling, write_on, step_refusal, planned}
use Rattle.points.specs.Lent.{StepsOn}
use Rattle.points.proofs.Fits.{any_reports, any-known}
use Rattle.points.proofs.Phases.{is-writing}
use Rattle.points.proofs.RecordFacts.{SharedFits, PlaceFits, RunFits, ZeroingFits, shared-facts, fits-place}
use Rattle.points.proofs.RecordFacts.{fits-write, run-facts, write-zeroing-facts, write-position, span-few}
use Rattle.points.proofs.RecordReasons.{unfit-before, fit-goes-on, first-settled, first-goes-on}
use Rattle.points.proofs.NotRefused.{step-shared, step_fits, step-joined, step-busy}
use Rattle.points.proofs.StepCases.{empty, ended, fill_on, commit-on, store-on, end_on, move-on, end_reasons, extend-on, give-on, stop-on, go_on}

-- ---- what is known

-- what holds of a step whatever reports are known, holds with some
pub of-any : (words : List ℕ) (n : Numbers) (taken : List ℕ) (h : Head) (table : List ℕ) → StepsOn words n taken h table
    → (step_refusal one words (shared_of n taken (any_reports n)) h table ≡ 0) × (is_reading h.write.phase ≡ false)
of-any words n taken h table on = (on.0 (any_reports n) (any-known n), on.1)

pub record Ready (E : Edition) (words : List ℕ) (s : Shared) (h : Head) (table : List ℕ) : Type 0 where
  pub shared : SharedFits E words s
  pub place : PlaceFits E s.blocks h.place
  pub run : RunFits E s.blocks h.write
  pub joined : is_joined s h.number ≡ true

module _ (E : Edition) (words : List ℕ) (s : Shared) (h : Head) (table : List ℕ) (on : (step_refusal E words s h table ≡ 0) × (is_reading
    h.write.phase ≡ false)) where
  abbrev e : step_refusal E words s h table ≡ 0
  e = on.0

  writing : is_writing h.write.phase ≡ true
  writing = is-writing h.write.phase (step-busy E words s (point_of h table []) e) on.1

  fit : fits E s.blocks h table ≡ true
  fit = not-false _ (step_fits E words s (point_of h table []) e)

  pub ready : Ready E words s h table
  ready =
      let f = shared-facts E words s (step-shared E words s (point_of h table []) e) in
      let w = fits-write E s.blocks h table fit writing in
      record {
        shared = f;
        place = fits-place E s.blocks h table fit;
        run = run-facts E s.blocks h.place h.write w;
        joined = not-false _ (step-joined E words s (point_of h table []) e);
      }

  pub ready-zeroing : is_zeroing h.write.phase ≡ true → ZeroingFits E s.blocks h.place h.write
  ready-zeroing z =
      write-zeroing-facts E s.blocks h.place h.write (fits-write E s.blocks h table fit writing) z

  pub ready-position : is_zeroing h.write.phase ≡ false → h.write.position ≤ run_words E h.write
  ready-position z =
      let l = write-position E s.blocks h.place h.write (fits-write E s.blocks h table fit writing) z in
      omega arith

-- the run's first block is one of 1,024
pub run-below : {E : Edition} {words : List ℕ} {s : Shared} {h : Head} {table : List ℕ} → Ready E words s h table → h.write.run < 1024
run-below {E} {h = h} f = omega (arith, f.run.run_inside, f.shared.few-blocks, (span-few E h.write.offset h.write.size f.run.text).0)

-- ---- the refusals

module _ (E : Edition) (words : List ℕ) (s : Shared) (p : Point) where
  pub refused-on : (k : ℕ) → step_refusal E words s p.head p.table ≡ suc k → planned E words s p ≡ refused E p.head (suc k)
  unfolding planned
  refused-on k e = chosen-suc (step_refusal E words s p.head p.table) k _ (λ k. refused E p.head (suc k)) e

  pub goes_on : step_refusal E words s p.head p.table ≡ 0 → planned E words s p ≡ write_on E (memory E words) s p
  unfolding planned
  goes_on e = chosen-zero (step_refusal E words s p.head p.table) _ (λ k. refused E p.head (suc k)) e

  pub turned_away : (r : ℕ) → r ≡ unfit E words s p.head p.table → (r ≡ 0 → ⊥) → planned E words s p ≡ refused E p.head r
  unfolding step_refusal
  turned_away zero e h = absurd (h refl)
  turned_away (suc r) e h = refused-on r (unfit-before E words s p.head p.table (15 when is_idle p.head.write.phase ∷ []) r (sym e))

  module _ (e : unfit E words s p.head p.table ≡ 0) where
    rest : step_refusal E words s p.head p.table ≡ first (15 when is_idle p.head.write.phase ∷ [])
    unfolding step_refusal
    rest = fit-goes-on E words s p.head p.table e (15 when is_idle p.head.write.phase ∷ [])

    pub none-under-way : is_idle p.head.write.phase ≡ true → planned E words s p ≡ refused E p.head 15
    none-under-way i = refused-on 14 (rest ∙ rw i)

    pub under-way : is_idle p.head.write.phase ≡ false → step_refusal E words s p.head p.table ≡ 0
    under-way i = rest ∙ rw i

-- ---- the ways

module _ (E : Edition) (m : Memory) (s : Shared) (p : Point) (k n : ℕ) (ek : k ≡ next_word E p.head.write) (en : n ≡ run_words E p.head.write) where
  pub fills : k < n → filling E m s p ≡ fill E m s p k
  fills h = rw ek (fill_on E m s p (rw (← ek, ← en) (lt-ltb k n h)))

  pub commits : n ≤ k → filling E m s p ≡ committing E m p.head s
  commits h = commit-on E m s p (rw (← ek, ← en) (le-ltb k n h))

module _ (E : Edition) (m : Memory) (s : Shared) (h : Head) where
  module _ (slot : h.place.slot < E.block_words) where
    pub slot-empty : word_at m h.place.block h.place.slot ≡ 0 → committing E m h s ≡ commit E h
    slot-empty e = store-on E m h s (and_both _ _ (lt-ltb _ _ slot) (is-zero _ e))

    pub slot-taken : (word_at m h.place.block h.place.slot ≡ 0 → ⊥) → committing E m h s ≡ move_on E m h s.blocks
    slot-taken n =
        let f : empty E m h ≡ false = rw (lt-ltb h.place.slot E.block_words slot) (not-zero _ n) in
        let g : ended E m h ≡ false = rw (ne_eqb h.place.slot E.block_words (λ x. omega arith)) in
        move-on E m h s f g

  module _ (slot : h.place.slot ≡ E.block_words) where
    full : empty E m h ≡ false
    full = rw (le-ltb h.place.slot E.block_words (omega arith))

    pub chain-ends : next_index m h.place.block ≡ 0 → committing E m h s ≡ at_end E m h s
    chain-ends e = end_on E m h s full (and_both _ _ (eq-eqb _ _ slot) (is-zero _ e))

    pub chain-goes-on : (next_index m h.place.block ≡ 0 → ⊥) → committing E m h s ≡ move_on E m h s.blocks
    chain-goes-on n =
        let g : ended E m h ≡ false = rw (eq-eqb h.place.slot E.block_words slot) (not-zero _ n) in
        move-on E m h s full g

  pub end-full : chain_max ≤ s.chain → at_end E m h s ≡ give_up E h 20
  end-full l = give-on E m h s 19 (first-settled 20 _ (21 when is_zero (search s 1) ∷ []) (le-leb chain_max s.chain l))

  module _ (l : s.chain < chain_max) where
    end-not-full : first (end_reasons E m h s) ≡ first (21 when is_zero (search s 1) ∷ [])
    end-not-full = first-goes-on 20 _ (21 when is_zero (search s 1) ∷ []) (lt-leb chain_max s.chain l)

    pub end_none : search s 1 ≡ 0 → at_end E m h s ≡ give_up E h 21
    end_none e = give-on E m h s 20 (end-not-full ∙ first-settled 21 _ [] (is-zero (search s 1) e))

    pub end-free : (search s 1 ≡ 0 → ⊥) → at_end E m h s ≡ extend E h (search s 1)
    end-free e = extend-on E m h s (end-not-full ∙ first-goes-on 21 _ [] (not-zero (search s 1) e))

-- ---- moving on, by what the walk saw

module _ (E : Edition) (m : Memory) (h : Head) (blocks : ℕ) (seen : Lookahead)
    (e : seen ≡ lookahead_of E blocks (run_first E h.write) (run_first E h.write + run_blocks E h.write - 1)
    (ahead E m blocks h.place)) where
  pub move-stops : seen.broken ≡ true → move_on E m h blocks ≡ refused E h 18
  unfolding lookahead_of
  move-stops b = stop-on E m h blocks (sym (ap (λ (x : Lookahead). x.broken) e) ∙ b)

  pub move-goes : seen.broken ≡ false → move_on E m h blocks
      ≡ resting Moved seen.place
      (refill (first_edge E h.write && seen.first) (last_edge E h.write && seen.last) E h.write) AllAhead NoBlock 0 false Standing
  unfolding lookahead_of refill_after
  move-goes b = go_on E m h blocks (sym (ap (λ (x : Lookahead). x.broken) e) ∙ b) ∙ rw e
