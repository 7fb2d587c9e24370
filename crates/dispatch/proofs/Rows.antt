-- A row of turns, one after the other; and the records and answers of points, some of which have had theirs.
use mathlib.Core.Path.{◌≡◌, refl, sym, ap, ◌∙◌}
use mathlib.Core.List.{List, [], ◌∷◌, ◌++◌, map}
use Prim.Native.Nat.{ℕ, suc}
use lib.ListN.{length, get_or, set}
use lib.Seq.{append_snoc, get_or_at, set_at}
use Rattle.points.specs.Serving.{Turned, in_turn, Listed, points_of, lasts_of}
use Rattle.points.specs.declared.Point.{Point}
use Rattle.dispatch.specs.Dispatch.{last_numbers}

-- what turns leave behind those that are done
abbrev pub behind : {S B : Type 0} → List B → Turned S (List B) → Turned S (List B)
behind done r = record { common = r.common; own = done ++ r.own }

-- one turn more
module _ {S A B : Type 0} where
  pub in-turn-next : (turn : S → A → Turned S B) (r : Turned S (List B)) (done : List B) (s : S) (x : A) (rest : List A)
      → r ≡ behind done (in_turn turn s (x ∷ rest)) → r ≡ behind (done ++ ((turn s x).own ∷ [])) (in_turn turn (turn s x).common rest)
  unfolding in_turn
  in-turn-next turn r done s x rest e =
      let t = turn s x in
      let q = in_turn turn t.common rest in
      e ∙ ap (λ (l : List B). record { common = q.common; own = l }) (sym (append_snoc done t.own q.own))

abbrev pub answers_of : List Listed → List (List ℕ)
answers_of xs = map last_numbers (lasts_of xs)

pub points-append : (xs ys : List Listed) → points_of (xs ++ ys) ≡ points_of xs ++ points_of ys
points-append [] ys = refl
points-append (x ∷ xs) ys = ap (λ (l : List Point). x.point ∷ l) (points-append xs ys)

pub answers-append : (xs ys : List Listed) → answers_of (xs ++ ys) ≡ answers_of xs ++ answers_of ys
answers-append [] ys = refl
answers-append (x ∷ xs) ys = ap (λ (l : List (List ℕ)). last_numbers x.last ∷ l) (answers-append xs ys)

pub length-points : (xs : List Listed) → length (points_of xs) ≡ length xs
length-points [] = refl
length-points (x ∷ xs) = ap suc (length-points xs)

pub length-answers : (xs : List Listed) → length (answers_of xs) ≡ length xs
length-answers [] = refl
length-answers (x ∷ xs) = ap suc (length-answers xs)

pub one-longer : (xs : List Listed) (x : Listed) → length (xs ++ (x ∷ [])) ≡ suc (length xs)
one-longer [] x = refl
one-longer (y ∷ xs) x = ap suc (one-longer xs x)

-- the element after those of the points that are done is theirs no more
module _ {A : Type 0} (f : List Listed → List A) (long : (xs : List Listed) → length (f xs) ≡ length xs)
    (append : (xs ys : List Listed) → f (xs ++ ys) ≡ f xs ++ f ys) where
  pub after-done : (done : List Listed) (i : ℕ) (a d : A) (rest all : List A) → length done ≡ i → all ≡ f done ++ (a ∷ rest) → get_or all i d ≡ a
  after-done done i a d rest all e q = rw q (get_or_at (f done) a rest d i (long done ∙ e))

  pub put-done : (done : List Listed) (i : ℕ) (a : A) (rest all : List A) (x : Listed) (b : A) → f (x ∷ []) ≡ b ∷ [] → length done ≡ i
      → all ≡ f done ++ (a ∷ rest) → set all i b ≡ f (done ++ (x ∷ [])) ++ rest
  put-done done i a rest all x b one e q =
      rw (q, append done (x ∷ []), one) (set_at (f done) a rest b i (long done ∙ e) ∙ sym (append_snoc (f done) b rest))
