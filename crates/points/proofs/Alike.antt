-- Two rows, over turns of two kinds: where of what is alike each two turns leave what is alike, the rows do too. Assumes nothing.
use Prim.Native.Nat.{ℕ, zero, suc}
use mathlib.Core.List.{List, [], ◌∷◌}
use Rattle.points.specs.Serving.{Turned, in_turn, rounds, row}

-- ---- what is alike

-- element by element
module _ {A B : Type 0} (P : A → B → Type 0) where
  abbrev pub Pairs : List A → List B → Type 0
  Pairs [] [] = Unit {0}
  Pairs (x ∷ xs) (y ∷ ys) = P x y × Pairs xs ys
  Pairs [] (y ∷ ys) = ⊥
  Pairs (x ∷ xs) [] = ⊥

-- what two turns leave
pub record Alike {S T X Y : Type 0} (R : S → T → Type 0) (P : X → Y → Type 0) (l : Turned S X) (r : Turned T Y) : Type 0 where
  pub common : R l.common r.common
  pub own : P l.own r.own

-- ---- turns

module _ {S T : Type 0} (R : S → T → Type 0) where
  -- turns that leave what is alike, of what is alike
  abbrev pub TurnsAlike : {A B X Y : Type 0} → (A → B → Type 0) → (X → Y → Type 0) → (S → A → Turned S X) → (T → B → Turned T Y) → Type 0
  TurnsAlike {A} {B} P Q turn other = (s : S) (t : T) (a : A) (b : B) → R s t → P a b → Alike R Q (turn s a) (other t b)

  in-turn-alike : {A B X Y : Type 0} (P : A → B → Type 0) (Q : X → Y → Type 0) (turn : S → A → Turned S X) (other : T → B → Turned T Y)
      → TurnsAlike P Q turn other → (s : S) (t : T) (xs : List A) (ys : List B) → R s t → Pairs P xs ys
      → Alike R (Pairs Q) (in_turn turn s xs) (in_turn other t ys)
  unfolding in_turn
  in-turn-alike P Q turn other alike s t [] [] r p = record { common = r; own = tt }
  in-turn-alike P Q turn other alike s t (x ∷ xs) (y ∷ ys) r p =
      let here = alike s t x y r p.0 in
      let rest = in-turn-alike P Q turn other alike (turn s x).common (other t y).common xs ys here.common p.1 in
      record { common = rest.common; own = (here.own, rest.own) }
  in-turn-alike P Q turn other alike s t [] (y ∷ ys) r p = absurd p
  in-turn-alike P Q turn other alike s t (x ∷ xs) [] r p = absurd p

  rounds-alike : {X Y : Type 0} (Q : X → Y → Type 0) (turn : S → X → Turned S X) (other : T → Y → Turned T Y) → TurnsAlike Q Q turn other
      → (k : ℕ) (s : S) (t : T) (xs : List X) (ys : List Y) → R s t → Pairs Q xs ys → Alike R (Pairs Q) (rounds k turn s xs) (rounds k other t ys)
  unfolding rounds
  rounds-alike Q turn other alike zero s t xs ys r p = record { common = r; own = p }
  rounds-alike Q turn other alike (suc k) s t xs ys r p =
      let h = in-turn-alike Q Q turn other alike s t xs ys r p in rounds-alike Q turn other alike k _ _ _ _ h.common h.own

  pub row-alike : {A B X Y : Type 0} (P : A → B → Type 0) (Q : X → Y → Type 0) (begin : S → A → Turned S X) (other_begin : T → B → Turned T Y)
      (step : S → X → Turned S X) (other_step : T → Y → Turned T Y) → TurnsAlike P Q begin other_begin → TurnsAlike Q Q step other_step
      → (k : ℕ) (s : S) (t : T) (xs : List A) (ys : List B) → R s t → Pairs P xs ys
      → Alike R (Pairs Q) (row begin step k s xs) (row other_begin other_step k t ys)
  unfolding row
  row-alike P Q begin other_begin step other_step b g k s t xs ys r p =
      let h = in-turn-alike P Q begin other_begin b s t xs ys r p in rounds-alike Q step other_step g k _ _ _ _ h.common h.own
