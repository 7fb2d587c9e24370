-- All writes are begun, in list order.
use mathlib.Core.Path.{◌≡◌, refl, sym, ap, ◌∙◌}
use mathlib.Core.List.{List, [], ◌∷◌, ◌++◌, append-nil}
use Prim.Native.Nat.{ℕ, suc, ◌+◌, ◌≤◌, ◌<◌}
use native.Mathlib.Omega.{arith}
use lib.ListN.{length, get_or, set, take, drop, drop_of_length-le}
use lib.Seq.{drop-cons, drop-drop}
use Rattle.words.specs.Edition.{one}
use Rattle.block_log.specs.declared.Shared.{Shared}
use Rattle.points.specs.declared.Point.{Point}
use Rattle.points.specs.declared.Begun.{Begun}
use Rattle.points.specs.Calls.{beginning}
use Rattle.points.specs.Serving.{Turned, Common, begun, Listed, in_turn, begin_turn, asking, points_of}
use Rattle.dispatch.specs.Dispatch.{offset_of, size_of, sizes_of, requests_of, last_numbers}
use Rattle.dispatch.specs.Turns.{common, asking_for, Lent, TurnLeaves, Leaves}
use Rattle.dispatch.proofs.Lent.{sizes-next}
use Rattle.dispatch.proofs.Rows.{behind, in-turn-next, answers_of, points-append, answers-append, length-points, length-answers, one-longer, after-done, put-done}

-- one beginning
pub begun-turn : (ws : List ℕ) (s : Shared) (p : Point) (offset : ℕ) (text : List ℕ) (b : Begun) (answer : List ℕ)
    → b ≡ beginning one ws s p offset text → answer ≡ last_numbers (begun b.reply)
    → TurnLeaves (begin_turn one (common ws s) (asking_for p offset text)) ws b.shared b.point answer
unfolding begin_turn
begun-turn ws s p offset text b answer e f =
    record {
      common_is = ap (λ (c : Begun). common ws c.shared) (sym e);
      point_is = ap (λ (c : Begun). c.point) e;
      answer_is = f ∙ ap (λ (c : Begun). last_numbers (begun c.reply)) e;
    }

module _ (ws : List ℕ) (s : Shared) (ys : List Point) (before writes : List (List ℕ)) (bytes : List ℕ) where
  -- the first i have begun: what all beginnings give is what they give from here, behind those that are done
  pub record Begins (i start : ℕ) (now : Shared) (zs : List Point) (answers : List (List ℕ)) : Type 0 where
    pub done : List Listed
    pub so_far : in_turn (begin_turn one) (common ws s) (asking ys (requests_of writes bytes))
        ≡ behind done (in_turn (begin_turn one) (common ws now) (asking (drop i ys) (requests_of (drop i writes) (drop start bytes))))
    pub points_are : zs ≡ points_of done ++ drop i ys
    pub answers_are : answers ≡ answers_of done ++ drop i before
    pub at_is : length done ≡ i
    pub bytes_left : start + sizes_of (drop i writes) ≡ length bytes

  pub begins-first : Lent ys before writes bytes → Begins 0 0 s ys before
  begins-first l =
      record {
        done = [];
        so_far = refl;
        points_are = refl;
        answers_are = refl;
        at_is = refl;
        bytes_left = let e = l.bytes_are in omega (arith, e);
      }

  module _ (lent : Lent ys before writes bytes) (i start : ℕ) (now : Shared) (zs : List Point) (answers : List (List ℕ)) (b : Begins i start now zs answers)
      (h : i < length ys) where
    abbrev pub w : List ℕ
    w = get_or writes i []

    in-writes : i < length writes
    in-writes = let e = lent.writes_are in omega (arith, h, e)

    in-before : i < length before
    in-before = let e = lent.answers_are in omega (arith, h, e)

    -- its text lies within the bytes
    pub text-within : start + size_of w ≤ length bytes
    text-within = let e = b.bytes_left in let n = sizes-next writes i in-writes in omega (arith, e, n)

    -- whose turn it is
    pub point-here : (d : Point) → get_or zs i d ≡ get_or ys i d
    point-here d =
        after-done points_of length-points points-append b.done i (get_or ys i d) d (drop (suc i) ys) zs b.at_is
        (b.points_are ∙ ap (λ (l : List Point). points_of b.done ++ l) (drop-cons ys i d h))

    module _ (d : Point) (text : List ℕ) (is : text ≡ take (size_of w) (drop start bytes)) (later : Shared) (p : Point) (answer : List ℕ)
        (t : TurnLeaves (begin_turn one (common ws now) (asking_for (get_or zs i d) (offset_of w) text)) ws later p answer) where
      abbrev turned : Turned Common Listed
      turned = begin_turn one (common ws now) (asking_for (get_or ys i d) (offset_of w) (take (size_of w) (drop start bytes)))

      t' : TurnLeaves turned ws later p answer
      t' = (rw (point-here d, is) at t)

      from-here : asking (drop i ys) (requests_of (drop i writes) (drop start bytes))
          ≡ asking_for (get_or ys i d) (offset_of w) (take (size_of w) (drop start bytes))
          ∷ asking (drop (suc i) ys) (requests_of (drop (suc i) writes) (drop (start + size_of w) bytes))
      from-here = rw (drop-cons ys i d h, drop-cons writes i [] in-writes, sym (drop-drop (size_of w) start bytes)) refl

      pub begins-next : Begins (i + 1) (start + size_of w) later (set zs i p) (set answers i answer)
      begins-next =
          let one' : i + 1 ≡ suc i = omega arith in
          record {
            done = b.done ++ (turned.own ∷ []);
            so_far = rw one' (in-turn-next (begin_turn one) _ b.done (common ws now) _ _
                (b.so_far ∙ ap (λ l. behind b.done (in_turn (begin_turn one) (common ws now) l)) from-here)
                ∙ ap (λ (c : Common). behind (b.done ++ (turned.own ∷ []))
                (in_turn (begin_turn one) c (asking (drop (suc i) ys) (requests_of (drop (suc i) writes) (drop (start + size_of w) bytes))))) t'.common_is);
            points_are = rw one' (put-done points_of length-points points-append b.done i (get_or ys i d) (drop (suc i) ys) zs turned.own p
                (ap (λ (q : Point). q ∷ []) (sym t'.point_is)) b.at_is
                (b.points_are ∙ ap (λ (l : List Point). points_of b.done ++ l) (drop-cons ys i d h)));
            answers_are = rw one' (put-done answers_of length-answers answers-append b.done i (get_or before i []) (drop (suc i) before) answers turned.own answer
                (ap (λ (q : List ℕ). q ∷ []) (sym t'.answer_is)) b.at_is
                (b.answers_are ∙ ap (λ (l : List (List ℕ)). answers_of b.done ++ l) (drop-cons before i [] in-before)));
            at_is = let e = b.at_is in let o = one-longer b.done turned.own in omega (arith, e, o);
            bytes_left = let e = b.bytes_left in let n = sizes-next writes i in-writes in omega (arith, e, n);
          }

  -- all have begun
  pub begins-all : Lent ys before writes bytes → (i start : ℕ) (now : Shared) (zs : List Point) (answers : List (List ℕ)) → Begins i start now zs answers
      → length ys ≤ i → Leaves (in_turn (begin_turn one) (common ws s) (asking ys (requests_of writes bytes))) ws now zs answers
  unfolding in_turn
  begins-all lent i start now zs answers b h =
      let w = lent.writes_are in
      let a = lent.answers_are in
      let few-writes : length writes ≤ i = omega (arith, w, h) in
      let few-answers : length before ≤ i = omega (arith, a, h) in
      let no-points = drop_of_length-le ys h in
      let no-writes = drop_of_length-le writes few-writes in
      let no-answers = drop_of_length-le before few-answers in
      let none-asks : asking (drop i ys) (requests_of (drop i writes) (drop start bytes)) ≡ [] =
      ap (λ l. asking l (requests_of (drop i writes) (drop start bytes))) no-points ∙ ap (λ l. asking [] (requests_of l (drop start bytes))) no-writes in
      let over : in_turn (begin_turn one) (common ws s) (asking ys (requests_of writes bytes)) ≡ record { common = common ws now; own = b.done } =
      b.so_far ∙ ap (λ l. behind b.done (in_turn (begin_turn one) (common ws now) l)) none-asks
      ∙ ap (λ (l : List Listed). record { common = common ws now; own = l }) (append-nil b.done) in
      record {
        common_is = ap (λ (r : Turned Common (List Listed)). r.common) over;
        shows = record {
          points_are = b.points_are ∙ ap (λ (l : List Point). points_of b.done ++ l) no-points ∙ append-nil (points_of b.done)
              ∙ sym (ap (λ (r : Turned Common (List Listed)). points_of r.own) over);
          answers_are = b.answers_are ∙ ap (λ (l : List (List ℕ)). answers_of b.done ++ l) no-answers ∙ append-nil (answers_of b.done)
              ∙ sym (ap (λ (r : Turned Common (List Listed)). answers_of r.own) over);
        };
      }
