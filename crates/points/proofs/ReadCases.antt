-- Which way a step goes by its kind, and which way a read's goes, one law for each test of its definition. recovery goes by the same cases.
-- `each_read` takes what holds of each thing that a read's step may do to the step. Assumes nothing.
use mathlib.Core.Path.{◌≡◌, refl, sym, ◌∙◌, subst}
use mathlib.Core.List.{List}
use mathlib.Core.Bool.{Bool, true, false, ◌||◌}
use mathlib.Core.Option.{none}
use Prim.Native.Nat.{ℕ, zero, suc}
use lib.Dec.{ltb}
use Rattle.words.specs.Edition.{Edition}
use Rattle.words.specs.Memory.{Memory, memory}
use Rattle.words.proofs.Choice.{choose-true, choose-false, chosen-zero, chosen-suc}
use Rattle.block_log.specs.declared.Shared.{Shared}
use Rattle.block_log.specs.Refusals.{refusal}
use Rattle.block_log.specs.CatchUp.{Walk, ahead, broken}
use Rattle.points.specs.declared.Write.{Write}
use Rattle.points.specs.declared.Point.{Point}
use Rattle.points.specs.declared.StepAnswer.TheVariants.{Refused}
use Rattle.points.specs.Record.{is_reading, range_words, caught_up}
use Rattle.points.specs.Plan.{Outcome, untouched, carried_out}
use Rattle.points.specs.ReadSteps.{covered, lengthened, copy_word, begin_again, answer_bytes, finish, read_on}
use Rattle.points.specs.Stepping.{step_refusal, planned, read_step, stepping}

-- ---- a write's step, or a read's

module _ (E : Edition) (words : List ℕ) (s : Shared) (p : Point) where
  pub write-kind : is_reading p.head.write.phase ≡ false → stepping E words s p ≡ carried_out E (memory E words) s p (planned E words s p)
  unfolding stepping
  write-kind e = choose-false (is_reading p.head.write.phase) (read_step E words s p) _ e

  module _ (r : is_reading p.head.write.phase ≡ true) where
    read-kind : stepping E words s p ≡ read_step E words s p
    unfolding stepping
    read-kind = choose-true (is_reading p.head.write.phase) (read_step E words s p) _ r

    pub read-refused : (k : ℕ) → step_refusal E words s p.head p.table ≡ suc k → stepping E words s p ≡ untouched s p (Refused (refusal (suc k)))
    unfolding read_step
    read-refused k e = read-kind
        ∙ chosen-suc (step_refusal E words s p.head p.table) k (read_on E (memory E words) s p) (λ n. untouched s p (Refused (refusal (suc n)))) e

    pub read_goes : step_refusal E words s p.head p.table ≡ 0 → stepping E words s p ≡ read_on E (memory E words) s p
    unfolding read_step
    read_goes e = read-kind
        ∙ chosen-zero (step_refusal E words s p.head p.table) (read_on E (memory E words) s p) (λ n. untouched s p (Refused (refusal (suc n)))) e

-- ---- a read's step that is not refused

module _ (E : Edition) (m : Memory) (s : Shared) (p : Point) where
  abbrev w : Write
  w = p.head.write

  abbrev pub walked : Walk
  walked = ahead E m s.blocks p.head.place

  abbrev pub caught : Point
  caught = caught_up E walked p

  -- the copy must begin again
  abbrev pub disturbed : Bool
  disturbed = covered E w walked.entries || lengthened w p.head.length caught.head.length

  pub copy-on : ltb w.position (range_words w) ≡ true → read_on E m s p ≡ copy_word E m s p
  unfolding read_on
  copy-on e = choose-true (ltb w.position (range_words w)) (copy_word E m s p) (finish E m s p) e

  pub finish-on : ltb w.position (range_words w) ≡ false → read_on E m s p ≡ finish E m s p
  unfolding read_on
  finish-on e = choose-false (ltb w.position (range_words w)) (copy_word E m s p) (finish E m s p) e

  pub stop-on : broken E s.blocks walked ≡ true → finish E m s p ≡ untouched s p (Refused (refusal 18))
  unfolding finish
  stop-on e = choose-true (broken E s.blocks walked) (untouched s p (Refused (refusal 18))) _ e

  pub again-on : broken E s.blocks walked ≡ false → disturbed ≡ true → finish E m s p ≡ begin_again s p caught
  unfolding finish
  again-on e f = choose-false (broken E s.blocks walked) (untouched s p (Refused (refusal 18))) _ e
      ∙ choose-true disturbed (begin_again s p caught) (answer_bytes s p caught) f

  pub bytes_on : broken E s.blocks walked ≡ false → disturbed ≡ false → finish E m s p ≡ answer_bytes s p caught
  unfolding finish
  bytes_on e f = choose-false (broken E s.blocks walked) (untouched s p (Refused (refusal 18))) _ e
      ∙ choose-false disturbed (begin_again s p caught) (answer_bytes s p caught) f

  -- ---- whatever it does

  pub record EachRead (P : Outcome → Type 0) : Type 0 where
    pub copies : ltb w.position (range_words w) ≡ true → P (copy_word E m s p)
    pub stops : broken E s.blocks walked ≡ true → P (untouched s p (Refused (refusal 18)))
    pub begins-again : ltb w.position (range_words w) ≡ false → disturbed ≡ true → P (begin_again s p caught)
    pub answers : ltb w.position (range_words w) ≡ false → disturbed ≡ false → P (answer_bytes s p caught)

  pub each_read : (P : Outcome → Type 0) → EachRead P → P (read_on E m s p)
  each_read P each = go (ltb w.position (range_words w)) (broken E s.blocks walked) disturbed refl refl refl
    where
      go : (a b c : Bool) → ltb w.position (range_words w) ≡ a → broken E s.blocks walked ≡ b → disturbed ≡ c → P (read_on E m s p)
      go true b c e f g = subst P (sym (copy-on e)) (each.copies e)
      go false true c e f g = subst P (sym (finish-on e ∙ stop-on f)) (each.stops f)
      go false false true e f g = subst P (sym (finish-on e ∙ again-on f g)) (each.begins-again e g)
      go false false false e f g = subst P (sym (finish-on e ∙ bytes_on f g)) (each.answers e g)

  -- it stores nothing, and nobody joins or leaves by it
  pub record Stays (o : Outcome) : Type 0 where
    pub joined : o.shared.joined ≡ s.joined
    pub store : o.store ≡ none

  pub read_stays : Stays (read_on E m s p)
  unfolding copy_word begin_again answer_bytes
  read_stays =
      let same : (o : Outcome) → o.shared.joined ≡ s.joined → o.store ≡ none → Stays o = λ o e f. record { joined = e; store = f } in
      each_read Stays (record {
        copies = λ e. same _ refl refl;
        stops = λ e. same _ refl refl;
        begins-again = λ e f. same _ refl refl;
        answers = λ e f. same _ refl refl;
      })

-- a read's step, refused or not
pub step_stays : (E : Edition) (words : List ℕ) (s : Shared) (p : Point) → is_reading p.head.write.phase ≡ true
    → Stays E (memory E words) s p (stepping E words s p)
step_stays E words s p r = go (step_refusal E words s p.head p.table) refl
  where
    go : (k : ℕ) → step_refusal E words s p.head p.table ≡ k → Stays E (memory E words) s p (stepping E words s p)
    go zero e = subst (Stays E (memory E words) s p) (sym (read_goes E words s p r e)) (read_stays E (memory E words) s p)
    go (suc k) e = subst (Stays E (memory E words) s p) (sym (read-refused E words s p r k e)) (record { joined = refl; store = refl })
