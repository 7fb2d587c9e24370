-- A round: each unfinished point has a step. The rank of each falls, whoever has had its step in this round and whoever not. So after as many rounds as the
-- ranks are at most nobody is left.
use mathlib.Core.Path.{◌≡◌, refl, sym}
use mathlib.Core.Logic.{◌≢◌}
use mathlib.Core.List.{List, [], ◌∷◌, map}
use mathlib.Core.Bool.{true}
use Prim.Native.Nat.{ℕ, zero, suc, ◌+◌, ◌-◌, ◌≤◌}
use native.Mathlib.Omega.{arith}
use lib.ListN.{length}
use Rattle.words.specs.Edition.{Edition}
use Rattle.words.specs.Logic.{all_of}
use Rattle.words.proofs.Logic.{and_both}
use Rattle.recovery.specs.World.{World, Event, serve, world, events}
use Rattle.recovery.specs.Row.{Turn, step_of, unfinished, round_calls, after_rounds}
use Rattle.recovery.specs.Claim.{is_end_or_goes_on}
use Rattle.recovery.proofs.Row.Rank.{rank-some}
use Rattle.recovery.proofs.Row.Sight.{sight}
use Rattle.recovery.proofs.Row.Listed.{Each, each_two, Apart, goes_first, stops_first, apart-unfinished, fewer-unfinished}
use Rattle.recovery.proofs.Row.Listed.{events-after, all_after}
use Rattle.recovery.proofs.Row.OneTurn.{Live, Holds, turn_holds, Turned, over, on, step-turn}

module _ (E : Edition) (r : ℕ) where
  -- what a round of these leaves, with d live points besides
  pub record Round (d n : ℕ) (w : World) (ts : List Turn) (v : World) (us : List Turn) (es : List Event) : Type 0 where
    pub left : ℕ
    pub count : left ≡ length us + d
    pub holds : Holds E v
    pub mine : Each (λ t. Live E left v r t.number) us
    pub others : (i q : ℕ) → Each (λ t. t.number ≢ i) ts → 1 ≤ d → Live E n w q i → Live E left v q i
    pub fine : all_of is_end_or_goes_on es ≡ true

  abbrev pub RoundOf : ℕ → ℕ → World → List Turn → Type 0
  RoundOf d n w ts = let cs = map step_of ts in Round d n w ts (world E w cs) (unfinished ts (events E w cs)) (events E w cs)

  -- after the first one's step the others have theirs
  module _ (w : World) (t : Turn) (ts : List Turn) (d n : ℕ) (e : n ≡ length (t ∷ ts) + d) (few : n ≤ 32) (a : Apart (t ∷ ts))
      (ls : Each (λ u. Live E n w (suc r) u.number) ts) where
    abbrev v : World
    v = (serve E w (step_of t)).world

    abbrev es : List Event
    es = events E v (map step_of ts)

    abbrev Rest : Type 0
    Rest = (d' n' : ℕ) → n' ≡ length ts + d' → n' ≤ 32 → Each (λ u. Live E n' v (suc r) u.number) ts → RoundOf d' n' v ts

    first_then : Turned E w t n r → Rest → Round d n w (t ∷ ts) (world E v (map step_of ts)) (unfinished (t ∷ ts) ((serve E w (step_of t)).event ∷ es))
        ((serve E w (step_of t)).event ∷ es)
    first_then (over g f kept) rest =
        let x = rest d (n - 1) (omega arith) (omega arith)
        (each_two (λ u. u.number ≢ t.number) (λ u. Live E n w (suc r) u.number) (λ u. Live E (n - 1) v (suc r) u.number) ts
        (λ u l p li. kept u.number (suc r) p (omega arith) li) a.0 ls) in
        rw (stops_first t ts (serve E w (step_of t)).event es g) (record {
          left = x.left;
          count = x.count;
          holds = x.holds;
          mine = x.mine;
          others = λ i q p y li. x.others i q p.1 y (kept i q (λ z. p.0 (sym z)) (omega arith) li);
          fine = and_both (is_end_or_goes_on (serve E w (step_of t)).event) (all_of is_end_or_goes_on es) f x.fine;
        })
    first_then (on g f live kept) rest =
        let x = rest (suc d) n (omega arith) few
        (each_two (λ u. u.number ≢ t.number) (λ u. Live E n w (suc r) u.number) (λ u. Live E n v (suc r) u.number) ts
        (λ u l p li. kept u.number (suc r) p li) a.0 ls) in
        rw (goes_first t ts (serve E w (step_of t)).event es g) (record {
          left = x.left;
          count = omega (arith, x.count);
          holds = x.holds;
          mine = (x.others t.number r a.0 (omega arith) live, x.mine);
          others = λ i q p y li. x.others i q p.1 (omega arith) (kept i q (λ z. p.0 (sym z)) li);
          fine = and_both (is_end_or_goes_on (serve E w (step_of t)).event) (all_of is_end_or_goes_on es) f x.fine;
        })

  pub round : (ts : List Turn) (d n : ℕ) → n ≡ length ts + d → n ≤ 32 → Apart ts → (w : World) → Holds E w
      → Each (λ t. Live E n w (suc r) t.number) ts → RoundOf d n w ts
  unfolding world events
  round [] d n e few a w h ls =
      record { left = n; count = unfold unfinished in e; holds = h; mine = unfold unfinished in tt; others = λ i q x y z. z; fine = refl }
  round (t ∷ ts) d n e few a w h ls = first_then w t ts d n e few a ls.1 (step-turn w h t n (omega arith) few r ls.0)
      (λ d' n' e' f' m. round ts d' n' e' f' a.1 (serve E w (step_of t)).world (turn_holds E w t h) m)

-- ---- rounds, as many as the ranks at most

pub rounds-end : (E : Edition) (r : ℕ) (w : World) → Holds E w → (ts : List Turn) → Apart ts → length ts ≤ 32
    → Each (λ t. Live E (length ts) w r t.number) ts
    → (after_rounds E r w ts ≡ []) × (all_of is_end_or_goes_on (events E w (round_calls E r w ts)) ≡ true)
unfolding after_rounds round_calls
rounds-end E zero w h [] a few ls = (refl, unfold events in refl)
rounds-end E zero w h (t ∷ ts) a few ls =
    let l = ls.0.low in absurd (omega (arith, rank-some E (length (t ∷ ts) - 1) (sight E w t.number) (w.newest t.number)))
rounds-end E (suc r) w h ts a few ls =
    let cs = map step_of ts in
    let us = unfinished ts (events E w cs) in
    let x = round E r ts 0 (length ts) (omega arith) few a w h ls in
    let e : x.left ≡ length us = omega (arith, x.count) in
    let y = rounds-end E r (world E w cs) x.holds us (apart-unfinished ts (events E w cs) a) (omega (arith, fewer-unfinished ts (events E w cs)))
    (rw e at x.mine) in
    (y.0, rw (events-after E w cs (round_calls E r (world E w cs) us)) (all_after is_end_or_goes_on (events E w cs) _ x.fine y.1))
