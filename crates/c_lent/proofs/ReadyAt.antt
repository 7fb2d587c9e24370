-- Points that are known to fit go on fitting: whoever has a turn, at the beginning or in a round. Assumes nothing.
use mathlib.Core.Path.{◌≡◌, refl, sym, ap, ◌∙◌, subst}
use mathlib.Core.Logic.{◌≢◌}
use mathlib.Core.Bool.{Bool, true, false}
use mathlib.Core.List.{List, [], ◌∷◌}
use Prim.Native.Nat.{ℕ, ◌<◌}
use native.Mathlib.Omega.{arith}
use native.Mathlib.Decide.{ℕ_discrete}
use lib.ListN.{get_or}
use Rattle.words.specs.Edition.{one}
use Rattle.words.specs.Memory.{after}
use Rattle.words.proofs.Choice.{choose-true}
use Rattle.words.proofs.Tests.{no_true}
use Rattle.points.specs.declared.Point.{Point}
use Rattle.points.specs.declared.StepAnswer.{StepAnswer}
use Rattle.points.specs.declared.StepAnswer.TheVariants.{Stored, Moved, Extending, Committed, Refused, Copied, Bytes}
use Rattle.points.specs.Plan.{Outcome}
use Rattle.points.specs.Stepping.{stepping, step_kind, step_value}
use Rattle.points.specs.Serving.{Turned, step_goes_on}
use Rattle.points.proofs.Ready.{Ready}
use Rattle.points.proofs.ReadyOn.{step-ready, step-others}
use Rattle.c_lent.specs.Numbers.{is_known, shared_in, point_in, lend_shared, lend_point}
use Rattle.c_lent.specs.Calls.{StepLeft, step_for, if_known}
use Rattle.c_lent.specs.Serving.{CommonLent, ListedLent, common_lent, listed_lent, turn_left, kind_goes_on, step_turn_for}
use Rattle.c_lent.specs.Batch.{ReadyAt, AllReady}
use Rattle.c_lent.proofs.Heads.{head-back}
use Rattle.c_lent.proofs.Known.{few-known, step-few}
use Rattle.c_lent.proofs.Turns.{turn_on, turn-off}

pub goes_same : (a : StepAnswer) → kind_goes_on (step_kind a) ≡ step_goes_on a
goes_same Stored = refl
goes_same Moved = refl
goes_same Extending = refl
goes_same (Committed retries) = refl
goes_same (Refused n) = refl
goes_same Copied = refl
goes_same (Bytes n) = refl

-- ---- a turn of such a point

-- what a step leaves, as a turn
abbrev pub outcome_turn : List ℕ → Outcome → Turned CommonLent ListedLent
outcome_turn words o =
    turn_left (common_lent (after one words o.store) (lend_shared o.shared)) (listed_lent (lend_point o.point) (step_kind o.step ∷ step_value o.step ∷ []))

module _ {c : CommonLent} {x : ListedLent} (r : ReadyAt c x) where
  pub is-ready : Ready one c.image (shared_in c.shared) r.point
  is-ready = record { unrefused = r.unrefused; unread = r.unread }

  abbrev pub outcome : Outcome
  outcome = stepping one c.image (shared_in c.shared) r.point

  pub is_known_lem : is_known x.point.head ≡ true
  is_known_lem = rw r.is (few-known r.point.head r.few)

  -- it is the step of its record
  pub ready-turn : kind_goes_on (get_or x.answer 0 0) ≡ true → step_turn_for c x ≡ outcome_turn c.image outcome
  unfolding if_known
  ready-turn g =
      let back : point_in x.point ≡ r.point = rw (r.is, head-back r.point.head) in
      let o = stepping one c.image (shared_in c.shared) (point_in x.point) in
      sym (turn_on c.image c.shared x.point x.answer g (step_for c.image c.shared x.point []) [] refl)
      ∙ ap (λ (l : StepLeft). turn_left (common_lent l.image l.shared) (listed_lent l.point (l.answer.kind ∷ l.answer.value ∷ [])))
      (choose-true (is_known x.point.head) _ _ is_known_lem)
      ∙ ap (λ (p : Point). outcome_turn c.image (stepping one c.image (shared_in c.shared) p)) back

  abbrev then : CommonLent
  then = (outcome_turn c.image outcome).common

  -- it is ready again where its write goes on
  pub own-ready : step_goes_on outcome.step ≡ true → ReadyAt then (outcome_turn c.image outcome).own
  own-ready g =
      let k = step-ready is-ready g in
      record {
        point = outcome.point;
        is = refl;
        few = step-few one c.image (shared_in c.shared) r.point r.few;
        numbers = omega arith;
        unrefused = k.unrefused;
        unread = k.unread;
      }

  -- and so are the others
  pub other-ready : {y : ListedLent} → ReadyAt c y → ReadyAt then y
  other-ready q =
      let k = step-others is-ready {q = q.point} (record { unrefused = q.unrefused; unread = q.unread }) in
      record { point = q.point; is = q.is; few = q.few; numbers = omega arith; unrefused = k.unrefused; unread = k.unread }

-- ---- a turn of one of several

-- whoever has it, all are ready afterwards
pub good-next : (c c' : CommonLent) (n i : ℕ) (f f' : ℕ → ListedLent) → AllReady c n f → i < n → turn_left c' (f' i) ≡ step_turn_for c (f i)
    → ((j : ℕ) → j ≢ i → f' j ≡ f j) → AllReady c' n f'
good-next c c' n i f f' good l e others = go (kind_goes_on (get_or (f i).answer 0 0)) refl
  where
    T : Type 0
    T = Turned CommonLent ListedLent

    off : kind_goes_on (get_or (f i).answer 0 0) ≡ false → turn_left c' (f' i) ≡ turn_left c (f i)
    off g = e ∙ sym (turn-off c.image c.shared (f i).point (f i).answer g)

    on : (g : kind_goes_on (get_or (f i).answer 0 0) ≡ true) → turn_left c' (f' i) ≡ outcome_turn c.image (outcome (good i l g))
    on g = e ∙ ready-turn (good i l g) g

    go : (b : Bool) → kind_goes_on (get_or (f i).answer 0 0) ≡ b → AllReady c' n f'
    go true g j k h = at (ℕ_discrete j i)
      where
        r : ReadyAt c (f i)
        r = good i l g

        at : Dec (j ≡ i) → ReadyAt c' (f' j)
        at (yes q) =
            let here : f' j ≡ (outcome_turn c.image (outcome r)).own = rw q (ap (λ (t : T). t.own) (on g)) in
            let h' : kind_goes_on (step_kind (outcome r).step) ≡ true = rw here at h in
            subst (λ (t : T). ReadyAt t.common (f' j)) (sym (on g))
            (subst (ReadyAt (outcome_turn c.image (outcome r)).common) (sym here) (own-ready r (sym (goes_same (outcome r).step) ∙ h')))
        at (no q) =
            subst (λ (t : T). ReadyAt t.common (f' j)) (sym (on g))
            (subst (ReadyAt (outcome_turn c.image (outcome r)).common) (sym (others j q)) (other-ready r (good j k (rw (others j q) at h))))
    go false g j k h = at (ℕ_discrete j i)
      where
        at : Dec (j ≡ i) → ReadyAt c' (f' j)
        at (yes q) =
            let here : f' j ≡ f i = rw q (ap (λ (t : T). t.own) (off g)) in
            let no' : kind_goes_on (get_or (f' j).answer 0 0) ≡ false = rw here g in
            absurd (no_true h no')
        at (no q) =
            subst (λ (t : T). ReadyAt t.common (f' j)) (sym (off g)) (subst (ReadyAt c) (sym (others j q)) (good j k (rw (others j q) at h)))
