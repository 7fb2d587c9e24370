-- The plain steps of a ready record: where words are left, a step stores the next one, the position goes on by one, and nothing else changes; the record
-- is ready then for its next step. Assumes nothing.
use Prim.Native.Nat.{ℕ, suc, ◌<◌}
use mathlib.Core.Path.{◌≡◌, refl, sym, ap, subst, ◌∙◌}
use mathlib.Core.Bool.{true, false}
use mathlib.Core.List.{List, []}
use mathlib.Core.Option.{some}
use borrow.Author.Tests.{lt-ltb}
use Rattle.words.specs.Edition.{Edition}
use Rattle.words.specs.Memory.{Memory, Store, memory, after}
use Rattle.words.proofs.Choice.{choose-true, choose-false}
use Rattle.block_log.specs.declared.Shared.{Shared}
use Rattle.points.specs.declared.Phase.TheVariants.{Filling, Zeroing}
use Rattle.points.specs.declared.Write.{Write}
use Rattle.points.specs.declared.Point.{Point}
use Rattle.points.specs.declared.StepAnswer.TheVariants.{Stored}
use Rattle.points.specs.Record.{is_zeroing, run_words, with_head, writing}
use Rattle.points.specs.Fill.{new_word}
use Rattle.points.specs.Plan.{Outcome, carried_out, word_from}
use Rattle.points.specs.Stepping.{turned, filled, stepping}
use Rattle.points.specs.Serving.{Common, Last, Listed, stepped, step_goes_on, is_unfinished, step_turn}
use Rattle.points.proofs.StepCases.{on-zeroing, on-filling, zero-on}
use Rattle.points.proofs.StepFacts.{fills}
use Rattle.points.proofs.NextWord.{next-filling}
use Rattle.points.proofs.CarriedOut.{after_fill, fill-leaves, after_zero, zero-leaves}
use Rattle.points.proofs.Ready.{Ready}
use Rattle.points.proofs.ReadyOn.{ready-step, step-ready}

-- a step that stores a word, and of the records changes the write alone
abbrev pub stored_turn : Shared → Point → Write → Store → Outcome
stored_turn s p w store = record { step = Stored; shared = s; point = with_head p (writing p.head w); store = some store; bytes = [] }

module _ {E : Edition} {words : List ℕ} {s : Shared} {p : Point} (r : Ready E words s p) where
  abbrev m : Memory
  m = memory E words

  abbrev w : Write
  w = p.head.write

  -- it leaves a ready record
  stored-ready : (v : Write) (x : Store) → stepping E words s p ≡ stored_turn s p v x → Ready E (after E words (some x)) s (with_head p (writing p.head v))
  stored-ready v x e =
      subst (λ (o : Outcome). step_goes_on o.step ≡ true → Ready E (after E words o.store) o.shared o.point) e (step-ready r) refl

  -- ---- filling

  module _ (f : w.phase ≡ Filling) (l : w.position < run_words E w) where
    -- the word stored
    abbrev pub fill_store : Store
    fill_store = word_from E w.run w.position (new_word E m p.head p.table p.text w.position)

    pub fill-turn : stepping E words s p ≡ stored_turn s p (filled w w.position) fill_store
    unfolding after_fill
    fill-turn =
        let not-zeroing : is_zeroing w.phase ≡ false = rw f in
        ready-step r
        ∙ ap (carried_out E m s p)
        (on-filling E m s p not-zeroing ∙ fills E m s p w.position (run_words E w) (sym (next-filling E w f)) refl l)
        ∙ fill-leaves E m s p w.position

    pub fill-ready : Ready E (after E words (some fill_store)) s (with_head p (writing p.head (filled w w.position)))
    fill-ready = stored-ready _ _ fill-turn

  -- ---- zeroing

  module _ (f : w.phase ≡ Zeroing) (l : w.position < E.block_words) where
    abbrev pub zero_store : Store
    zero_store = record { block = w.zeroing; word = w.position; value = 0 }

    abbrev pub zeroed_on : Write
    zeroed_on = turned w Zeroing (suc w.position) w.zeroing w.retries

    pub zero_turn : stepping E words s p ≡ stored_turn s p zeroed_on zero_store
    unfolding after_zero
    zero_turn =
        let zeroing : is_zeroing w.phase ≡ true = rw f in
        ready-step r
        ∙ ap (carried_out E m s p) (on-zeroing E m s p zeroing ∙ zero-on E m p.head s.chain (lt-ltb _ _ l))
        ∙ zero-leaves E m s p l

-- ---- turns of one point

-- the turn of a listed point that is unfinished
pub turn-of : (E : Edition) (words : List ℕ) (s : Shared) (p : Point) (last : Last) → is_unfinished last ≡ true
    → step_turn E (record { words = words; shared = s }) (record { point = p; last = last })
    ≡ (let o = stepping E words s p in
    record { common = record { words = after E words o.store; shared = o.shared }; own = record { point = o.point; last = stepped o.step } })
unfolding step_turn
turn-of E words s p last u = choose-true (is_unfinished last) _ _ u

-- and of one that is not
pub no-turn : (E : Edition) (c : Common) (x : Listed) → is_unfinished x.last ≡ false → step_turn E c x ≡ record { common = c; own = x }
unfolding step_turn
no-turn E c x u = choose-false (is_unfinished x.last) _ _ u
