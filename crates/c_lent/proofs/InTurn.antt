-- A loop in which each of a list has its turn, in place: those before i have had theirs, the others are as they were.
use mathlib.Core.Path.{◌≡◌, refl, sym, ap, ◌∙◌}
use mathlib.Core.List.{List, [], ◌∷◌, ◌++◌}
use Prim.Native.Nat.{ℕ, suc, ◌-◌, ◌≤◌, ◌<◌}
use native.Mathlib.Omega.{arith}
use Rattle.words.specs.Logic.{list_from}
use Rattle.points.specs.Serving.{Turned, in_turn}
use Rattle.c_lent.proofs.Places.{same-list, one_last, one_less}

joined : {A : Type 0} (xs : List A) (y : A) (zs : List A) → (xs ++ (y ∷ [])) ++ zs ≡ xs ++ (y ∷ zs)
joined [] y zs = refl
joined (x ∷ xs) y zs = ap (λ (l : List _). x ∷ l) (joined xs y zs)

joined-none : {A : Type 0} (xs : List A) → xs ++ [] ≡ xs
joined-none [] = refl
joined-none (x ∷ xs) = ap (λ (l : List _). x ∷ l) (joined-none xs)

-- ---- turns

module _ {S B : Type 0} where
  -- what is left by turns behind others that have had theirs
  abbrev pub behind : List B → Turned S (List B) → Turned S (List B)
  behind done r = record { common = r.common; own = done ++ r.own }

module _ {S A B : Type 0} where
  module _ (turn : S → A → Turned S B) where
    -- n in all, of which i have had their turn: `f` has those to come, `g` those that are done
    abbrev pub Reached : Turned S (List B) → S → ℕ → ℕ → (ℕ → A) → (ℕ → B) → Type 0
    Reached r s i n f g = r ≡ behind (list_from 0 i g) (in_turn turn s (list_from i (n - i) f))

    pub reached-start : (s : S) (n : ℕ) (f : ℕ → A) (g : ℕ → B) → Reached (in_turn turn s (list_from 0 n f)) s 0 n f g
    reached-start s n f g = let e : n - 0 ≡ n = omega arith in rw e

    pub reached-next : (r : Turned S (List B)) (s t : S) (i n : ℕ) (f f' : ℕ → A) (g g' : ℕ → B) → i < n → Reached r s i n f g
        → t ≡ (turn s (f i)).common → g' i ≡ (turn s (f i)).own → ((j : ℕ) → j < i → g' j ≡ g j) → ((j : ℕ) → i < j → f' j ≡ f j)
        → Reached r t (suc i) n f' g'
    unfolding in_turn
    reached-next r s t i n f f' g g' h so et eg before later =
        let x = turn s (f i) in
        let rest = in_turn turn x.common (list_from (suc i) (n - suc i) f) in
        let here : r ≡ behind (list_from 0 i g) (in_turn turn s (f i ∷ list_from (suc i) (n - suc i) f)) = rw (one_less i n f h) at so in
        let done : list_from 0 (suc i) g' ≡ list_from 0 i g ++ (x.own ∷ []) =
        one_last i g' ∙ ap (λ (l : List B). l ++ (g' i ∷ [])) (same-list 0 i g' g (λ j a b. before j (omega arith)))
        ∙ ap (λ (y : B). list_from 0 i g ++ (y ∷ [])) eg in
        let left : list_from (suc i) (n - suc i) f' ≡ list_from (suc i) (n - suc i) f = same-list (suc i) (n - suc i) f' f (λ j a b. later j (omega arith)) in
        here
        ∙ ap (λ (l : List B). record { common = rest.common; own = l }) (sym (joined (list_from 0 i g) x.own rest.own))
        ∙ sym (ap (λ (l : List B). behind l (in_turn turn t (list_from (suc i) (n - suc i) f'))) done
        ∙ ap (λ (l : List A). behind (list_from 0 i g ++ (x.own ∷ [])) (in_turn turn t l)) left
        ∙ ap (λ (u : S). behind (list_from 0 i g ++ (x.own ∷ [])) (in_turn turn u (list_from (suc i) (n - suc i) f))) et)

    pub reached-end : (r : Turned S (List B)) (s : S) (i n : ℕ) (f : ℕ → A) (g : ℕ → B) → n ≤ i → i ≤ n → Reached r s i n f g
        → r ≡ record { common = s; own = list_from 0 n g }
    unfolding in_turn
    reached-end r s i n f g h k so =
        let e : n - i ≡ 0 = omega arith in
        let d : i ≡ n = omega arith in
        (rw e at so) ∙ ap (λ (l : List B). record { common = s; own = l }) (joined-none (list_from 0 i g) ∙ ap (λ (m : ℕ). list_from 0 m g) d)
