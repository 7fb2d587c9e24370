-- A list of points: after their beginnings, and after any rounds, every unfinished point is ready for its next step. Rounds follow on rounds, and do nothing
-- where none is unfinished. Assumes nothing.
use Prim.Native.Nat.{ℕ, zero, suc, ◌+◌}
use native.Mathlib.Omega.{arith}
use mathlib.Core.Path.{◌≡◌, refl, sym, ap, subst, ◌∙◌}
use mathlib.Core.Bool.{Bool, true, false}
use mathlib.Core.List.{List, [], ◌∷◌}
use lib.ListN.{length}
use Rattle.words.specs.Edition.{Edition}
use Rattle.block_log.specs.Refusals.{Reply}
use Rattle.block_log.specs.Opening.{reply_of}
use Rattle.block_log.proofs.Walk.{never}
use Rattle.points.specs.Calls.{begin_refusal, beginning}
use Rattle.points.specs.Serving.{Turned, Common, begun, Listed, Asking, is_unfinished, in_turn, rounds, begin_turn, step_turn}
use Rattle.points.proofs.Replies.{begin-replies}
use Rattle.points.proofs.Ready.{Ready}
use Rattle.points.proofs.ReadyOn.{begin-ready, begin-others, step-ready, step-others}
use Rattle.points.proofs.Turns.{turn-of, no-turn}

-- ---- any turns

-- each of a list is so
abbrev pub AllOf : {X : Type 0} → (X → Type 0) → List X → Type 0
AllOf P [] = Unit {0}
AllOf P (x ∷ xs) = P x × AllOf P xs

-- what a turn gives the one that has it, and takes from none that had its turn or is to have it, all have in the end
module _ {S A B : Type 0} (turn : S → A → Turned S B) (Q : S → A → Type 0) (R : S → B → Type 0)
    (own : (s : S) (x : A) → Q s x → R (turn s x).common (turn s x).own)
    (later : (s : S) (x y : A) → Q s x → Q s y → Q (turn s x).common y)
    (earlier : (s : S) (x : A) (y : B) → Q s x → R s y → R (turn s x).common y) where
  all-later : (s : S) (x : A) (ys : List A) → Q s x → AllOf (Q s) ys → AllOf (Q (turn s x).common) ys
  all-later s x [] q c = tt
  all-later s x (y ∷ ys) q c = (later s x y q c.0, all-later s x ys q c.1)

  through : (s : S) (xs : List A) (y : B) → AllOf (Q s) xs → R s y → R (in_turn turn s xs).common y
  unfolding in_turn
  through s [] y c r = r
  through s (x ∷ xs) y c r = through (turn s x).common xs y (all-later s x xs c.0 c.1) (earlier s x y c.0 r)

  pub all_own : (s : S) (xs : List A) → AllOf (Q s) xs → AllOf (R (in_turn turn s xs).common) (in_turn turn s xs).own
  unfolding in_turn
  all_own s [] c = tt
  all_own s (x ∷ xs) c =
      let rest = all-later s x xs c.0 c.1 in
      (through (turn s x).common xs (turn s x).own rest (own s x c.0), all_own (turn s x).common xs rest)

-- rounds that follow on rounds
module _ {S A : Type 0} (turn : S → A → Turned S A) where
  pub rounds-add : (k l : ℕ) (s : S) (xs : List A)
      → rounds (k + l) turn s xs ≡ (let r = rounds k turn s xs in rounds l turn r.common r.own)
  unfolding rounds
  rounds-add zero l s xs = let e : 0 + l ≡ l = omega arith in ap (λ (n : ℕ). rounds n turn s xs) e
  rounds-add (suc k) l s xs =
      let e : suc k + l ≡ suc (k + l) = omega arith in
      let r = in_turn turn s xs in
      ap (λ (n : ℕ). rounds n turn s xs) e ∙ rounds-add k l r.common r.own

-- ---- ready

abbrev pub ReadyIn : Edition → Common → Listed → Type 0
ReadyIn E c x = is_unfinished x.last ≡ true → Ready E c.words c.shared x.point

module _ (E : Edition) where
  -- a beginning
  begun-ready : (c : Common) (a : Asking) → ReadyIn E (begin_turn E c a).common (begin_turn E c a).own
  unfolding begin_turn
  begun-ready c a u = go (begin_refusal E c.words c.shared a.point.head a.point.table a.request.offset (length a.request.text)) refl
    where
      go :
          (k : ℕ) → begin_refusal E c.words c.shared a.point.head a.point.table a.request.offset (length a.request.text) ≡ k
          → let b = beginning E c.words c.shared a.point a.request.offset a.request.text in
          Ready E c.words b.shared b.point
      go zero e = begin-ready E c.words c.shared a.point a.request.offset a.request.text e
      go (suc k) e =
          let refused = begin-replies E c.words c.shared a.point a.request.offset a.request.text ∙ ap reply_of e in
          never (sym (ap (λ (r : Reply). is_unfinished (begun r)) refused) ∙ u)

  begun-other : (c : Common) (a : Asking) (y : Listed) → ReadyIn E c y → ReadyIn E (begin_turn E c a).common y
  unfolding begin_turn
  begun-other c a y r u = begin-others E c.words c.shared a.point a.request.offset a.request.text (r u)

  pub all-begun : (c : Common) (xs : List Asking) → AllOf (ReadyIn E (in_turn (begin_turn E) c xs).common) (in_turn (begin_turn E) c xs).own
  all-begun c xs =
      all_own (begin_turn E) (λ c a. Unit {0}) (ReadyIn E) (λ c a q. begun-ready c a) (λ c a b q r. tt) (λ c a y q r. begun-other c a y r) c xs (whoever xs)
    where
      whoever : (ys : List Asking) → AllOf (λ (a : Asking). Unit {0}) ys
      whoever [] = tt
      whoever (y ∷ ys) = (tt, whoever ys)

  -- a step
  stepped-ready : (c : Common) (x : Listed) → ReadyIn E c x → ReadyIn E (step_turn E c x).common (step_turn E c x).own
  stepped-ready c x r = go (is_unfinished x.last) refl
    where
      go : (b : Bool) → is_unfinished x.last ≡ b → ReadyIn E (step_turn E c x).common (step_turn E c x).own
      go true u =
          subst (λ (t : Turned Common Listed). ReadyIn E t.common t.own) (sym (turn-of E c.words c.shared x.point x.last u))
          (λ v. step-ready (r u) v)
      go false u = subst (λ (t : Turned Common Listed). ReadyIn E t.common t.own) (sym (no-turn E c x u)) r

  stepped-other : (c : Common) (x y : Listed) → ReadyIn E c x → ReadyIn E c y → ReadyIn E (step_turn E c x).common y
  stepped-other c x y r q = go (is_unfinished x.last) refl
    where
      go : (b : Bool) → is_unfinished x.last ≡ b → ReadyIn E (step_turn E c x).common y
      go true u =
          subst (λ (t : Turned Common Listed). ReadyIn E t.common y) (sym (turn-of E c.words c.shared x.point x.last u))
          (λ v. step-others (r u) (q v))
      go false u = subst (λ (t : Turned Common Listed). ReadyIn E t.common y) (sym (no-turn E c x u)) q

  pub round-ready : (c : Common) (xs : List Listed) → AllOf (ReadyIn E c) xs
      → AllOf (ReadyIn E (in_turn (step_turn E) c xs).common) (in_turn (step_turn E) c xs).own
  round-ready = all_own (step_turn E) (ReadyIn E) (ReadyIn E) stepped-ready stepped-other stepped-other

  pub rounds-ready : (k : ℕ) (c : Common) (xs : List Listed) → AllOf (ReadyIn E c) xs
      → AllOf (ReadyIn E (rounds k (step_turn E) c xs).common) (rounds k (step_turn E) c xs).own
  unfolding rounds
  rounds-ready zero c xs r = r
  rounds-ready (suc k) c xs r = rounds-ready k (in_turn (step_turn E) c xs).common (in_turn (step_turn E) c xs).own (round-ready c xs r)

  -- ---- none is unfinished

  pub round-over : (c : Common) (xs : List Listed) → AllOf (λ (x : Listed). is_unfinished x.last ≡ false) xs
      → in_turn (step_turn E) c xs ≡ record { common = c; own = xs }
  unfolding in_turn
  round-over c [] o = refl
  round-over c (x ∷ xs) o = rw (no-turn E c x o.0, round-over c xs o.1)

  pub rounds-over : (k : ℕ) (c : Common) (xs : List Listed) → AllOf (λ (x : Listed). is_unfinished x.last ≡ false) xs
      → rounds k (step_turn E) c xs ≡ record { common = c; own = xs }
  unfolding rounds
  rounds-over zero c xs o = refl
  rounds-over (suc k) c xs o = rw (round-over c xs o) (rounds-over k c xs o)
