-- Rounds, in each of which each unfinished point makes a step.
use mathlib.Core.Path.{◌≡◌, refl, sym, ap, ◌∙◌}
use mathlib.Core.Bool.{true, false}
use mathlib.Core.List.{List, [], ◌∷◌, ◌++◌, append-nil}
use Prim.Native.Nat.{ℕ, suc, ◌+◌, ◌≤◌, ◌<◌}
use native.Mathlib.Omega.{arith}
use lib.ListN.{length, length-append, get_or, set}
use Rattle.std.specs.Prelude.{Ok, Err}
use Rattle.std.specs.List.{list_any}
use Rattle.words.specs.Edition.{one}
use Rattle.block_log.specs.declared.Shared.{Shared}
use Rattle.points.specs.declared.Point.{Point}
use Rattle.points.specs.declared.StepAnswer.TheVariants.{Stored, Moved, Extending, Committed, Refused, Copied, Bytes}
use Rattle.points.specs.Serving.{Turned, Common, Last, begun, stepped, Listed, is_unfinished, in_turn, rounds, step_turn, points_of}
use Rattle.points.specs.declared.Stepped.{Stepped}
use Rattle.points.specs.Plan.{Outcome, answered}
use Rattle.points.specs.Stepping.{stepping}
use Rattle.points.proofs.Turns.{turn-of, no-turn}
use Rattle.points.proofs.Rounds.{AllOf, rounds-over}
use Rattle.words.specs.Memory.{after}
use Rattle.words.proofs.Logic.{or_left, or_right}
use Rattle.dispatch.specs.Dispatch.{last_numbers}
use Rattle.dispatch.specs.Turns.{kind_goes_on, common, Shows, TurnLeaves, Leaves}
use Rattle.dispatch.proofs.Rows.{behind, in-turn-next, answers_of, points-append, answers-append, length-points, length-answers, one-longer, after-done, put-done}

-- whether a write goes on is told by the kind
pub by_kind : (l : Last) → kind_goes_on (get_or (last_numbers l) 0 0) ≡ is_unfinished l
by_kind (begun (Ok x)) = refl
by_kind (begun (Err e)) = refl
by_kind (stepped Stored) = refl
by_kind (stepped Moved) = refl
by_kind (stepped Extending) = refl
by_kind (stepped (Committed n)) = refl
by_kind (stepped (Refused e)) = refl
by_kind (stepped Copied) = refl
by_kind (stepped (Bytes n)) = refl

-- a turn in a round: a step, or none
pub no-turn-made : (ws : List ℕ) (s : Shared) (p : Point) (answer : List ℕ) → kind_goes_on (get_or answer 0 0) ≡ false → (x : Listed) → x.point ≡ p
    → last_numbers x.last ≡ answer → TurnLeaves (step_turn one (common ws s) x) ws s p answer
no-turn-made ws s p answer k x e f =
    let u : is_unfinished x.last ≡ false = sym (by_kind x.last) ∙ ap (λ (a : List ℕ). kind_goes_on (get_or a 0 0)) f ∙ k in
    let t = no-turn one (common ws s) x u in
    record {
      common_is = ap (λ (r : Turned Common Listed). r.common) t;
      point_is = sym e ∙ sym (ap (λ (r : Turned Common Listed). r.own.point) t);
      answer_is = sym f ∙ sym (ap (λ (r : Turned Common Listed). last_numbers r.own.last) t);
    }

pub turn-made : (ws : List ℕ) (s : Shared) (p : Point) (answer : List ℕ) (words : List ℕ) (made : Stepped) (told : List ℕ)
    → kind_goes_on (get_or answer 0 0) ≡ true → made ≡ answered (stepping one ws s p) → words ≡ after one ws (stepping one ws s p).store
    → told ≡ last_numbers (stepped made.step) → (x : Listed) → x.point ≡ p → last_numbers x.last ≡ answer
    → TurnLeaves (step_turn one (common ws s) x) words made.shared made.point told
turn-made ws s p answer words made told k m w n x e f =
    let u : is_unfinished x.last ≡ true = sym (by_kind x.last) ∙ ap (λ (a : List ℕ). kind_goes_on (get_or a 0 0)) f ∙ k in
    let t = turn-of one ws s x.point x.last u in
    let o = stepping one ws s p in
    let same = ap (λ (q : Point). stepping one ws s q) e in
    record {
      common_is = ap (λ (r : Turned Common Listed). r.common) t ∙ ap (λ (v : Outcome). common (after one ws v.store) v.shared) same
          ∙ sym (λ i. common (w i) ((m i).shared));
      point_is = ap (λ (v : Stepped). v.point) m ∙ sym (ap (λ (v : Outcome). v.point) same) ∙ sym (ap (λ (r : Turned Common Listed). r.own.point) t);
      answer_is = n ∙ ap (λ (v : Stepped). last_numbers (stepped v.step)) m ∙ sym (ap (λ (v : Outcome). last_numbers (stepped v.step)) same)
          ∙ sym (ap (λ (r : Turned Common Listed). last_numbers r.own.last) t);
    }

-- ---- a round

-- the first i have had their turns: what the round gives is what it gives from here, behind those that are done
pub record Turning (c : Common) (xs : List Listed) (i : ℕ) (ws : List ℕ) (s : Shared) (zs : List Point) (answers : List (List ℕ)) : Type 0 where
  pub done : List Listed
  pub rest : List Listed
  pub so_far : in_turn (step_turn one) c xs ≡ behind done (in_turn (step_turn one) (common ws s) rest)
  pub points_are : zs ≡ points_of done ++ points_of rest
  pub answers_are : answers ≡ answers_of done ++ answers_of rest
  pub at_is : length done ≡ i

pub turns-first : (ws : List ℕ) (s : Shared) (xs : List Listed) (zs : List Point) (answers : List (List ℕ)) → Shows xs zs answers
    → Turning (common ws s) xs 0 ws s zs answers
turns-first ws s xs zs answers h =
    record { done = []; rest = xs; so_far = refl; points_are = h.points_are; answers_are = h.answers_are; at_is = refl }

module _ {c : Common} {xs : List Listed} {i : ℕ} {ws : List ℕ} {s : Shared} {zs : List Point} {answers : List (List ℕ)} (t : Turning c xs i ws s zs answers) where
  -- from one turn to the next
  pub turns-next : (d : Point) (e : List ℕ) (words : List ℕ) (left : Shared) (p : Point) (answer : List ℕ) → i < length zs
      → ((x : Listed) → x.point ≡ get_or zs i d → last_numbers x.last ≡ get_or answers i e
      → TurnLeaves (step_turn one (common ws s) x) words left p answer)
      → Turning c xs (i + 1) words left (set zs i p) (set answers i answer)
  turns-next d e words left p answer h turned = go t.rest refl
    where
      go : (l : List Listed) → t.rest ≡ l → Turning c xs (i + 1) words left (set zs i p) (set answers i answer)
      go [] q =
          let n : length zs ≡ length (points_of t.done) + 0 = ap length (rw q at t.points_are) ∙ length-append (points_of t.done) [] in
          absurd (let m = length-points t.done in let a = t.at_is in omega (arith, h, n, m, a))
      go (y ∷ rest) q =
          let points-here : zs ≡ points_of t.done ++ (y.point ∷ points_of rest) = rw q at t.points_are in
          let answers-here : answers ≡ answers_of t.done ++ (last_numbers y.last ∷ answers_of rest) = rw q at t.answers_are in
          let o = turned y (sym (after-done points_of length-points points-append t.done i y.point d (points_of rest) zs t.at_is points-here))
          (sym (after-done answers_of length-answers answers-append t.done i (last_numbers y.last) e (answers_of rest) answers t.at_is answers-here)) in
          let own = (step_turn one (common ws s) y).own in
          record {
            done = t.done ++ (own ∷ []);
            rest = rest;
            so_far = in-turn-next (step_turn one) _ t.done (common ws s) y rest (rw q at t.so_far)
                ∙ ap (λ (k : Common). behind (t.done ++ (own ∷ [])) (in_turn (step_turn one) k rest)) o.common_is;
            points_are = put-done points_of length-points points-append t.done i y.point (points_of rest) zs own p
                (ap (λ (z : Point). z ∷ []) (sym o.point_is)) t.at_is points-here;
            answers_are = put-done answers_of length-answers answers-append t.done i (last_numbers y.last) (answers_of rest) answers own answer
                (ap (λ (z : List ℕ). z ∷ []) (sym o.answer_is)) t.at_is answers-here;
            at_is = let a = t.at_is in let b = one-longer t.done own in omega (arith, a, b);
          }

  -- all have had theirs
  pub turns-all : length zs ≤ i → Leaves (in_turn (step_turn one) c xs) ws s zs answers
  unfolding in_turn
  turns-all h = go t.rest refl
    where
      go : (l : List Listed) → t.rest ≡ l → Leaves (in_turn (step_turn one) c xs) ws s zs answers
      go [] q =
          let over : in_turn (step_turn one) c xs ≡ record { common = common ws s; own = t.done } =
          (rw q at t.so_far) ∙ ap (λ (l : List Listed). record { common = common ws s; own = l }) (append-nil t.done) in
          record {
            common_is = ap (λ (r : Turned Common (List Listed)). r.common) over;
            shows = record {
              points_are = (rw q at t.points_are) ∙ append-nil (points_of t.done) ∙ sym (ap (λ (r : Turned Common (List Listed)). points_of r.own) over);
              answers_are = (rw q at t.answers_are) ∙ append-nil (answers_of t.done) ∙ sym (ap (λ (r : Turned Common (List Listed)). answers_of r.own) over);
            };
          }
      go (y ∷ rest) q =
          let n : length zs ≡ length (points_of t.done) + length (points_of (y ∷ rest)) =
          ap length (rw q at t.points_are) ∙ length-append (points_of t.done) (points_of (y ∷ rest)) in
          absurd (let m = length-points t.done in let a = t.at_is in omega (arith, h, n, m, a))

-- ---- rounds

-- nobody is unfinished
all_finished : (xs : List Listed) → list_any (λ (a : List ℕ). kind_goes_on (get_or a 0 0)) (answers_of xs) ≡ false
    → AllOf (λ (x : Listed). is_unfinished x.last ≡ false) xs
all_finished [] e = tt
all_finished (x ∷ xs) e = (sym (by_kind x.last) ∙ or_left _ _ e, all_finished xs (or_right (kind_goes_on (get_or (last_numbers x.last) 0 0)) _ e))

-- so many rounds are left
pub record Going (r : Turned Common (List Listed)) (left : ℕ) (ws : List ℕ) (s : Shared) (zs : List Point) (answers : List (List ℕ)) : Type 0 where
  pub now : List Listed
  pub so_far : r ≡ rounds left (step_turn one) (common ws s) now
  pub shows : Shows now zs answers

module _ {r : Turned Common (List Listed)} {left : ℕ} {ws : List ℕ} {s : Shared} {zs : List Point} {answers : List (List ℕ)} (g : Going r left ws s zs answers) where
  -- one round more
  pub rounds-next : (k : ℕ) → left ≡ suc k → (words : List ℕ) (then : Shared) (qs : List Point) (told : List (List ℕ))
      → ((xs : List Listed) → Shows xs zs answers → Leaves (in_turn (step_turn one) (common ws s) xs) words then qs told) → Going r k words then qs told
  unfolding rounds
  rounds-next k e words then qs told f =
      let o = f g.now g.shows in
      let v = in_turn (step_turn one) (common ws s) g.now in
      record {
        now = v.own;
        so_far = g.so_far ∙ ap (λ (n : ℕ). rounds n (step_turn one) (common ws s) g.now) e
            ∙ ap (λ (c : Common). rounds k (step_turn one) c v.own) o.common_is;
        shows = o.shows;
      }

  -- none is left
  pub rounds-none : left ≡ 0 → Leaves r ws s zs answers
  unfolding rounds
  rounds-none e =
      let over : r ≡ record { common = common ws s; own = g.now } =
      g.so_far ∙ ap (λ (n : ℕ). rounds n (step_turn one) (common ws s) g.now) e in
      record { common_is = ap (λ (v : Turned Common (List Listed)). v.common) over; shows = rw over g.shows }

  -- nobody is unfinished: the rounds that are left change nothing
  pub rounds-idle : list_any (λ (a : List ℕ). kind_goes_on (get_or a 0 0)) answers ≡ false → Leaves r ws s zs answers
  rounds-idle e =
      let over : r ≡ record { common = common ws s; own = g.now } =
      g.so_far ∙ rounds-over one left (common ws s) g.now (all_finished g.now (rw g.shows.answers_are at e)) in
      record { common_is = ap (λ (v : Turned Common (List Listed)). v.common) over; shows = rw over g.shows }
