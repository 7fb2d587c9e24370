-- A step stores into no word of block 0: so the place of the word stored is 0 only where none is. Assumes nothing.
use Prim.Native.Nat.{ℕ, zero, suc, ◌+◌, ◌*◌, ◌/◌, ◌%◌, ◌≤◌}
use native.Mathlib.Omega.{arith}
use mathlib.Core.Path.{◌≡◌, refl, sym, ap, subst, ◌∙◌}
use mathlib.Core.Bool.{Bool, true, false}
use mathlib.Core.List.{List}
use mathlib.Core.Option.{none, some}
use Rattle.words.specs.Edition.{Edition}
use Rattle.words.specs.Memory.{memory}
use Rattle.words.proofs.Choice.{choose-true, choose-false}
use Rattle.words.proofs.Tests.{no_true}
use Rattle.words.proofs.Sizes.{sized}
use Rattle.block_log.specs.declared.Shared.{Shared}
use Rattle.points.specs.declared.Point.{Point}
use Rattle.points.specs.declared.plan.Kind.{Kind}
use Rattle.points.specs.declared.plan.Plan.{Plan}
use Rattle.points.specs.Record.{is_reading}
use Rattle.points.specs.Plan.{stores, store_of, stored_at, word_from, carried_out}
use Rattle.points.specs.Stepping.{fill, commit, give_up, extend, zero_out, link, give_back, step_refusal, planned, stepping}
use Rattle.points.proofs.StepFacts.{ready, ready-zeroing, refused-on, goes_on}
use Rattle.points.proofs.StepCases.{each-plan}
use Rattle.points.proofs.ReadCases.{write-kind, step_stays}

-- a store into a block from 1 on is not at place 0
far : (E : Edition) (b i : ℕ) → 1 ≤ b → 1 ≤ (b + i / E.block_words) * E.block_words + i % E.block_words
far E b i = sized (λ W U. 1 ≤ b → 1 ≤ (b + i / W) * W + i % W) (omega arith) E

-- the store of a plan begins at a block from 1 on
abbrev Past : Plan → Type 0
Past plan = stores plan.kind ≡ true → 1 ≤ plan.block

module _ (E : Edition) (words : List ℕ) (s : Shared) (p : Point) where
  plan-past : is_reading p.head.write.phase ≡ false → Past (planned E words s p)
  unfolding fill commit zero_out link give_back extend give_up
  plan-past w = go (step_refusal E words s p.head p.table) refl
    where
      nothing : false ≡ true → 1 ≤ 0
      nothing e = absurd (no_true e refl)

      go : (k : ℕ) → step_refusal E words s p.head p.table ≡ k → Past (planned E words s p)
      go (suc k) e = subst Past (sym (refused-on E words s p k e)) nothing
      go zero e =
          let f = ready E words s p.head p.table (e, w) in
          subst Past (sym (goes_on E words s p e)) (each-plan E (memory E words) s p Past (record {
            fills = λ k _. f.run.run_some;
            commits = λ _. f.place.block-some;
            zeroes = λ z _. (ready-zeroing E words s p.head p.table (e, w) z).zeroing-some;
            links = λ _ _. f.place.block-some;
            gives_back = nothing;
            extends = λ b. nothing;
            gives_up = λ k u. nothing;
            stops = λ b. nothing;
            moves = nothing;
          }))

  pub told_none : stored_at E (stepping E words s p).store ≡ 0 → (stepping E words s p).store ≡ none
  unfolding carried_out stored_at
  told_none = kind (is_reading p.head.write.phase) refl
    where
      go : (kind : Kind) (b i value : ℕ) (t : Bool) → stores kind ≡ t → (stores kind ≡ true → 1 ≤ b)
          → stored_at E (store_of E kind b i value) ≡ 0 → store_of E kind b i value ≡ none
      go kind b i value false e past z = choose-false (stores kind) (some (word_from E b i value)) none e
      go kind b i value true e past z =
          let at : stored_at E (some (word_from E b i value)) ≡ 0 = sym (ap (stored_at E) (choose-true (stores kind) _ none e)) ∙ z in
          absurd (omega (arith, at, far E b i (past e)))

      kind : (b : Bool) → is_reading p.head.write.phase ≡ b → stored_at E (stepping E words s p).store ≡ 0 → (stepping E words s p).store ≡ none
      kind true e z = (step_stays E words s p e).store
      kind false e z =
          let plan = planned E words s p in
          let w = write-kind E words s p e in
          rw w (go plan.kind plan.block plan.word plan.value (stores plan.kind) refl (plan-past e) (rw w at z))
