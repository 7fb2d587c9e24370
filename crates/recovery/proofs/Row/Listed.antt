-- Lists of turns: what holds of each, numbers that are apart, and those that are unfinished after a call each. And calls one list after the other.
use mathlib.Core.Path.{◌≡◌, refl, sym, ap, subst}
use mathlib.Core.Logic.{◌≢◌}
use mathlib.Core.List.{List, [], ◌∷◌, ◌++◌, map}
use mathlib.Core.Bool.{Bool, true, false}
use Prim.Native.Nat.{ℕ, ◌≤◌}
use native.Mathlib.Omega.{arith}
use lib.ListN.{length}
use Rattle.words.specs.Edition.{Edition}
use Rattle.words.specs.Logic.{all_of, member}
use Rattle.words.proofs.Logic.{or_left, or_right, and_left, and_right, and_both, member-head, member-tail}
use Rattle.words.proofs.Choice.{choose-true, choose-false}
use Rattle.points.specs.Serving.{twice}
use Rattle.recovery.specs.World.{World, Call, Event, serve, world, events}
use Rattle.recovery.specs.Row.{Turn, goes_on, unfinished}

-- ---- each of a list

abbrev pub Each : (Turn → Type 0) → List Turn → Type 0
Each P [] = Unit {0}
Each P (t ∷ ts) = P t × Each P ts

pub each_map : (P Q : Turn → Type 0) (ts : List Turn) → ((t : Turn) → 1 ≤ length ts → P t → Q t) → Each P ts → Each Q ts
each_map P Q [] f ps = tt
each_map P Q (t ∷ ts) f ps = (f t (omega arith) ps.0, each_map P Q ts (λ u l. f u (omega arith)) ps.1)

pub each_two : (A P Q : Turn → Type 0) (ts : List Turn) → ((t : Turn) → 1 ≤ length ts → A t → P t → Q t) → Each A ts → Each P ts → Each Q ts
each_two A P Q [] f qs ps = tt
each_two A P Q (t ∷ ts) f qs ps = (f t (omega arith) qs.0 ps.0, each_two A P Q ts (λ u l. f u (omega arith)) qs.1 ps.1)

-- no number stands twice
abbrev pub Apart : List Turn → Type 0
Apart [] = Unit {0}
Apart (t ∷ ts) = Each (λ u. u.number ≢ t.number) ts × Apart ts

pub not-among : (k : ℕ) (ts : List Turn) → member k (map (λ t. t.number) ts) ≡ false → Each (λ u. u.number ≢ k) ts
not-among k [] e = tt
not-among k (t ∷ ts) e =
    (member-head k t.number (map (λ u. u.number) ts) e, not-among k ts (member-tail k t.number (map (λ u. u.number) ts) e))

pub once-apart : (ts : List Turn) → twice (map (λ t. t.number) ts) ≡ false → Apart ts
once-apart [] e = tt
once-apart (t ∷ ts) e = (
  not-among t.number ts (or_left (member t.number (map (λ u. u.number) ts)) (twice (map (λ u. u.number) ts)) e),
  once-apart ts (or_right (member t.number (map (λ u. u.number) ts)) (twice (map (λ u. u.number) ts)) e),
)

-- ---- the unfinished

module _ (t : Turn) (ts : List Turn) (e : Event) (es : List Event) where
  pub goes_first : goes_on e ≡ true → unfinished (t ∷ ts) (e ∷ es) ≡ t ∷ unfinished ts es
  unfolding unfinished
  goes_first g = choose-true (goes_on e) (t ∷ unfinished ts es) (unfinished ts es) g

  pub stops_first : goes_on e ≡ false → unfinished (t ∷ ts) (e ∷ es) ≡ unfinished ts es
  unfolding unfinished
  stops_first g = choose-false (goes_on e) (t ∷ unfinished ts es) (unfinished ts es) g

  -- whether the first is or not
  pub either : (P : List Turn → Type 0) → (goes_on e ≡ true → P (t ∷ unfinished ts es)) → (goes_on e ≡ false → P (unfinished ts es))
      → P (unfinished (t ∷ ts) (e ∷ es))
  either P x y = go (goes_on e) refl
    where
      go : (b : Bool) → goes_on e ≡ b → P (unfinished (t ∷ ts) (e ∷ es))
      go true g = subst P (sym (goes_first g)) (x g)
      go false g = subst P (sym (stops_first g)) (y g)

pub each-unfinished : (P : Turn → Type 0) (ts : List Turn) (es : List Event) → Each P ts → Each P (unfinished ts es)
unfolding unfinished
each-unfinished P [] es ps = tt
each-unfinished P (t ∷ ts) [] ps = tt
each-unfinished P (t ∷ ts) (e ∷ es) ps = let r = each-unfinished P ts es ps.1 in either t ts e es (Each P) (λ g. (ps.0, r)) (λ g. r)

pub apart-unfinished : (ts : List Turn) (es : List Event) → Apart ts → Apart (unfinished ts es)
unfolding unfinished
apart-unfinished [] es a = tt
apart-unfinished (t ∷ ts) [] a = tt
apart-unfinished (t ∷ ts) (e ∷ es) a = let r = apart-unfinished ts es a.1 in
    either t ts e es Apart (λ g. (each-unfinished (λ u. u.number ≢ t.number) ts es a.0, r)) (λ g. r)

pub fewer-unfinished : (ts : List Turn) (es : List Event) → length (unfinished ts es) ≤ length ts
unfolding unfinished
fewer-unfinished [] es = omega arith
fewer-unfinished (t ∷ ts) [] = omega arith
fewer-unfinished (t ∷ ts) (e ∷ es) = let r = fewer-unfinished ts es in
    either t ts e es (λ us. length us ≤ length (t ∷ ts)) (λ g. omega arith) (λ g. omega arith)

-- ---- calls one list after the other

pub world-after : (E : Edition) (w : World) (cs ds : List Call) → world E w (cs ++ ds) ≡ world E (world E w cs) ds
unfolding world
world-after E w [] ds = refl
world-after E w (c ∷ cs) ds = world-after E (serve E w c).world cs ds

pub events-after : (E : Edition) (w : World) (cs ds : List Call) → events E w (cs ++ ds) ≡ events E w cs ++ events E (world E w cs) ds
unfolding events world
events-after E w [] ds = refl
events-after E w (c ∷ cs) ds = ap (λ (es : List Event). (serve E w c).event ∷ es) (events-after E (serve E w c).world cs ds)

pub all_after : (p : Event → Bool) (es fs : List Event) → all_of p es ≡ true → all_of p fs ≡ true → all_of p (es ++ fs) ≡ true
all_after p [] fs a b = b
all_after p (e ∷ es) fs a b = and_both (p e) (all_of p (es ++ fs)) (and_left (p e) (all_of p es) a) (all_after p es fs (and_right (p e) (all_of p es) a) b)
