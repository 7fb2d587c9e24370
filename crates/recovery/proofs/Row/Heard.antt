-- What each listed point was answered last, by the events of a row: a call is its own point's answer and nobody else's.
use Prim.Native.Nat.{ℕ}
use mathlib.Core.Path.{◌≡◌, refl, sym, ◌∙◌, subst}
use mathlib.Core.Logic.{◌≢◌}
use mathlib.Core.List.{List, [], ◌∷◌, ◌++◌, map}
use mathlib.Core.Option.{Option, some}
use lib.Dec.{eqb}
use borrow.Author.Tests.{eq-eqb, ne_eqb}
use Rattle.words.proofs.Choice.{choose-true, choose-false}
use Rattle.block_log.specs.Refusals.{Reply}
use Rattle.points.specs.declared.Head.{Head}
use Rattle.points.specs.declared.StepAnswer.{StepAnswer}
use Rattle.points.specs.Serving.{Last, Listed, lasts_of, begun as last_begun, stepped as last_stepped}
use Rattle.recovery.specs.World.{Event, begun, stepped}
use Rattle.recovery.specs.Row.{Turn, answers, last_answer}
use Rattle.recovery.proofs.Row.Listed.{Each}

-- ---- one event

-- it is point n's, with this answer
pub record Answered (n : ℕ) (a : Last) (e : Event) : Type 0 where
  pub mine : (before : Option Last) → answers n before e ≡ some a
  pub others : (k : ℕ) → k ≢ n → (before : Option Last) → answers k before e ≡ before

module _ (n : ℕ) where
  pub begun-answered : (offset : ℕ) (text : List ℕ) (r : Reply) → Answered n (last_begun r) (begun n offset text r)
  begun-answered offset text r = record {
    mine = λ before. choose-true (eqb n n) (some (last_begun r)) before (eq-eqb n n refl);
    others = λ k d before. choose-false (eqb n k) (some (last_begun r)) before (ne_eqb n k (λ e. d (sym e)));
  }

  pub step-answered : (h : Head) (a : StepAnswer) (bytes : List ℕ) → Answered n (last_stepped a) (stepped n h a bytes)
  step-answered h a bytes = record {
    mine = λ before. choose-true (eqb n n) (some (last_stepped a)) before (eq-eqb n n refl);
    others = λ k d before. choose-false (eqb n k) (some (last_stepped a)) before (ne_eqb n k (λ e. d (sym e)));
  }

-- ---- what each was answered last, before some events and after them

abbrev pub afterwards : (ℕ → Option Last) → List Event → ℕ → Option Last
afterwards f es k = last_answer k (f k) es

-- each listed answer is its point's last
unfoldable pub Told : (ℕ → Option Last) → List Turn → List Listed → Type 0
Told f [] [] = Unit {0}
Told f (t ∷ ts) (x ∷ xs) = (f t.number ≡ some x.last) × Told f ts xs
Told f [] (x ∷ xs) = ⊥
Told f (t ∷ ts) [] = ⊥

-- so it is after these events, and everybody else's last answer is as it was
pub record Heard (f : ℕ → Option Last) (es : List Event) (ts : List Turn) (ys : List Listed) : Type 0 where
  pub told : Told (afterwards f es) ts ys
  pub others : (k : ℕ) → Each (λ t. t.number ≢ k) ts → afterwards f es k ≡ f k

-- an event of one that is not among them
pub told-kept : (f g : ℕ → Option Last) (n : ℕ) (ts : List Turn) (xs : List Listed) → ((k : ℕ) → k ≢ n → g k ≡ f k) → Each (λ t. t.number ≢ n) ts
    → Told f ts xs → Told g ts xs
unfolding Told
told-kept f g n [] [] same a h = tt
told-kept f g n (t ∷ ts) (x ∷ xs) same a h = (same t.number a.0 ∙ h.0, told-kept f g n ts xs same a.1 h.1)
told-kept f g n [] (x ∷ xs) same a h = absurd h
told-kept f g n (t ∷ ts) [] same a h = absurd h

-- no event
pub none-heard : (f : ℕ → Option Last) (ts : List Turn) (xs : List Listed) → Told f ts xs → Heard f [] ts xs
unfolding last_answer
none-heard f ts xs h = record { told = h; others = λ k p. refl }

module _ (f : ℕ → Option Last) (t : Turn) (ts : List Turn) (es : List Event) (y : Listed) (ys : List Listed)
    (apart : Each (λ u. u.number ≢ t.number) ts) where
  -- the first one's event, then the others'
  pub first-heard : (e : Event) → Answered t.number y.last e → Heard (λ k. answers k (f k) e) es ts ys → Heard f (e ∷ es) (t ∷ ts) (y ∷ ys)
  unfolding Told last_answer
  first-heard e a h = record {
    told = (h.others t.number apart ∙ a.mine (f t.number), h.told);
    others = λ k p. h.others k p.1 ∙ a.others k (λ z. p.0 (sym z)) (f k);
  }

  -- no event of the first
  pub rest-heard : f t.number ≡ some y.last → Heard f es ts ys → Heard f es (t ∷ ts) (y ∷ ys)
  unfolding Told
  rest-heard mine h = record { told = (h.others t.number apart ∙ mine, h.told); others = λ k p. h.others k p.1 }

-- ---- events one list after the other

last-after : (k : ℕ) (before : Option Last) (es fs : List Event) → last_answer k before (es ++ fs) ≡ last_answer k (last_answer k before es) fs
unfolding last_answer
last-after k before [] fs = refl
last-after k before (e ∷ es) fs = last-after k (answers k before e) es fs

pub heard-after : (f : ℕ → Option Last) (es fs : List Event) (ts : List Turn) (ys zs : List Listed) → Heard f es ts ys
    → Heard (afterwards f es) fs ts zs → Heard f (es ++ fs) ts zs
heard-after f es fs ts ys zs h g =
    let same : afterwards (afterwards f es) fs ≡ afterwards f (es ++ fs) = λ i k. sym (last-after k (f k) es fs) i in
    record {
      told = subst (λ (x : ℕ → Option Last). Told x ts zs) same g.told;
      others = λ k p. last-after k (f k) es fs ∙ g.others k p ∙ h.others k p;
    }

-- the last answers of the listed are those that are listed
pub told-lasts : (f : ℕ → Option Last) (ts : List Turn) (xs : List Listed) → Told f ts xs → map (λ t. f t.number) ts ≡ map (λ a. some a) (lasts_of xs)
unfolding Told
told-lasts f [] [] h = refl
told-lasts f (t ∷ ts) (x ∷ xs) h = rw (h.0, told-lasts f ts xs h.1)
told-lasts f [] (x ∷ xs) h = absurd h
told-lasts f (t ∷ ts) [] h = absurd h
