-- Rounds of the call that serves a list of points are those of the row of calls, by the definitions alone. The listed points with their last answers, and the
-- world with the turns of those that are unfinished, go on together: what a turn leaves and answers is what the call in the list leaves and answers.
use Prim.Native.Nat.{ℕ, zero, suc}
use mathlib.Core.Path.{◌≡◌, refl, sym, ap, ◌∙◌, subst}
use mathlib.Core.Logic.{◌≢◌}
use mathlib.Core.Bool.{Bool, true, false}
use mathlib.Core.List.{List, [], ◌∷◌, map}
use mathlib.Core.Option.{Option}
use Rattle.words.specs.Edition.{Edition}
use Rattle.words.specs.Word.{bit}
use Rattle.words.specs.Memory.{after}
use Rattle.words.proofs.Choice.{choose-true, choose-false}
use Rattle.points.specs.Record.{is_joined}
use Rattle.points.specs.Serving.{Common, Last, Listed, Turned, in_turn, rounds, step_turn, is_unfinished, stepped as answered}
use Rattle.points.specs.Stepping.{stepping}
use Rattle.points.specs.Plan.{Outcome}
use Rattle.points.proofs.CarriedOut.{step-points}
use Rattle.recovery.specs.World.{World, Event, stepped, handed, with_newest, Served, serve, world, events}
use Rattle.recovery.specs.Row.{Turn, step_of, goes_on, unfinished, round_calls, answers}
use Rattle.recovery.proofs.Calls.Mapping.{handed-newest, with_newest-same, with_newest-other}
use Rattle.recovery.proofs.Row.Listed.{Each, Apart, goes_first, stops_first, world-after, events-after}
use Rattle.recovery.proofs.Row.Heard.{Answered, step-answered, Told, Heard, afterwards, told-kept, none-heard, first-heard, rest-heard, heard-after}

-- the turns of those that are unfinished
unfoldable pub live_of : List Turn → List Listed → List Turn
live_of [] xs = []
live_of (t ∷ ts) [] = []
live_of (t ∷ ts) (x ∷ xs) = elim (is_unfinished x.last) [ true ↦ t ∷ live_of ts xs | false ↦ live_of ts xs ]

-- each listed record is its point's newest, and one that is unfinished is joined
unfoldable pub Together : World → List Turn → List Listed → Type 0
Together v [] [] = Unit {0}
Together v (t ∷ ts) (x ∷ xs) =
    ((v.newest t.number ≡ x.point) × (is_unfinished x.last ≡ true → is_joined v.shared t.number ≡ true)) × Together v ts xs
Together v [] (x ∷ xs) = ⊥
Together v (t ∷ ts) [] = ⊥

abbrev pub common_of : World → Common
common_of v = record { words = v.words; shared = v.shared }

-- what a list of turns leaves
pub record Left (v u : World) (ts : List Turn) (c : Common) (xs : List Listed) : Type 0 where
  pub common : common_of u ≡ c
  pub together : Together u ts xs
  pub joined : u.shared.joined ≡ v.shared.joined
  pub others : (k : ℕ) → Each (λ t. t.number ≢ k) ts → u.newest k ≡ v.newest k

live_on : (t : Turn) (ts : List Turn) (x : Listed) (xs : List Listed) → is_unfinished x.last ≡ true → live_of (t ∷ ts) (x ∷ xs) ≡ t ∷ live_of ts xs
unfolding live_of
live_on t ts x xs e = choose-true (is_unfinished x.last) (t ∷ live_of ts xs) (live_of ts xs) e

live-off : (t : Turn) (ts : List Turn) (x : Listed) (xs : List Listed) → is_unfinished x.last ≡ false → live_of (t ∷ ts) (x ∷ xs) ≡ live_of ts xs
unfolding live_of
live-off t ts x xs e = choose-false (is_unfinished x.last) (t ∷ live_of ts xs) (live_of ts xs) e

-- those that go on, by the call and by what is listed
pub same_live : (t : Turn) (us ts : List Turn) (e : Event) (es : List Event) (y : Listed) (ys : List Listed) → goes_on e ≡ is_unfinished y.last
    → unfinished us es ≡ live_of ts ys → unfinished (t ∷ us) (e ∷ es) ≡ live_of (t ∷ ts) (y ∷ ys)
same_live t us ts e es y ys g rest = go (is_unfinished y.last) refl
  where
    go : (b : Bool) → is_unfinished y.last ≡ b → unfinished (t ∷ us) (e ∷ es) ≡ live_of (t ∷ ts) (y ∷ ys)
    go true h = goes_first t us e es (g ∙ h) ∙ ap (λ (l : List Turn). t ∷ l) rest ∙ sym (live_on t ts y ys h)
    go false h = stops_first t us e es (g ∙ h) ∙ rest ∙ sym (live-off t ts y ys h)

-- a call of one that is not among them
together-kept : (v u : World) (n : ℕ) (ts : List Turn) (xs : List Listed) → ((k : ℕ) → k ≢ n → u.newest k ≡ v.newest k)
    → u.shared.joined ≡ v.shared.joined → Each (λ t. t.number ≢ n) ts → Together v ts xs → Together u ts xs
unfolding Together
together-kept v u n [] [] same jo a g = tt
together-kept v u n [] (x ∷ xs) same jo a g = absurd g
together-kept v u n (t ∷ ts) [] same jo a g = absurd g
together-kept v u n (t ∷ ts) (x ∷ xs) same jo a g = (
  (same t.number a.0 ∙ g.0.0, λ h. ap (λ (y : ℕ). bit y t.number) jo ∙ g.0.1 h),
  together-kept v u n ts xs same jo a.1 g.1,
)

-- the first one's call, then the others'
pub first-left : (v w u : World) (t : Turn) (ts : List Turn) (c : Common) (y : Listed) (ys : List Listed) → Each (λ k. k.number ≢ t.number) ts
    → w.newest t.number ≡ y.point → (is_unfinished y.last ≡ true → is_joined v.shared t.number ≡ true)
    → ((k : ℕ) → k ≢ t.number → w.newest k ≡ v.newest k) → w.shared.joined ≡ v.shared.joined → Left w u ts c ys → Left v u (t ∷ ts) c (y ∷ ys)
unfolding Together
first-left v w u t ts c y ys apart mine busy same jo l = record {
  common = l.common;
  together = (
    (l.others t.number apart ∙ mine, λ h. ap (λ (z : ℕ). bit z t.number) (l.joined ∙ jo) ∙ busy h),
    l.together,
  );
  joined = l.joined ∙ jo;
  others = λ k p. l.others k p.1 ∙ same k (λ e. p.0 (sym e));
}

module _ (E : Edition) where
  -- ---- a round

  record Went (v : World) (ts : List Turn) (xs : List Listed) (c : Common) (ys : List Listed) : Type 0 where
    left : Left v (world E v (map step_of (live_of ts xs))) ts c ys
    live : unfinished (live_of ts xs) (events E v (map step_of (live_of ts xs))) ≡ live_of ts ys
    heard : (f : ℕ → Option Last) → Told f ts xs → Heard f (events E v (map step_of (live_of ts xs))) ts ys

  -- the step of one that is unfinished
  step-served : (v : World) (t : Turn) (c : Common) (x : Listed) → common_of v ≡ c → handed v t.number t.given ≡ x.point
      → let o = stepping E c.words c.shared x.point in
      serve E v (step_of t) ≡ record {
        event = stepped t.number x.point.head o.step o.bytes;
        world = record { words = after E c.words o.store; shared = o.shared; newest = with_newest v t.number o.point };
      }
  unfolding serve
  step-served v t c x e h =
      let i : v.words ≡ c.words = ap (λ (y : Common). y.words) e in let s : v.shared ≡ c.shared = ap (λ (y : Common). y.shared) e in rw (h, i, s)

  turn_on : (c : Common) (x : Listed) → is_unfinished x.last ≡ true → let o = stepping E c.words c.shared x.point in
      step_turn E c x ≡ record {
        common = record { words = after E c.words o.store; shared = o.shared };
        own = record { point = o.point; last = answered o.step };
      }
  unfolding step_turn
  turn_on c x e = choose-true (is_unfinished x.last) _ _ e

  turn-off : (c : Common) (x : Listed) → is_unfinished x.last ≡ false → step_turn E c x ≡ record { common = c; own = x }
  unfolding step_turn
  turn-off c x e = choose-false (is_unfinished x.last) _ _ e

  module _ (v : World) (t : Turn) (ts : List Turn) (x : Listed) (xs : List Listed) (c : Common) (ys : List Listed)
      (apart : Each (λ u. u.number ≢ t.number) ts) where
    -- a step, then the others'
    first-went : is_unfinished x.last ≡ true → (u : World) (ev : Event) → serve E v (step_of t) ≡ record { event = ev; world = u } → (y : Listed)
        → goes_on ev ≡ is_unfinished y.last → Answered t.number y.last ev → ((w : World) → Left u w ts c ys → Left v w (t ∷ ts) c (y ∷ ys))
        → Went u ts xs c ys → Went v (t ∷ ts) (x ∷ xs) c (y ∷ ys)
    unfolding world events Told
    first-went h u ev e y g a f r =
        let us = live_of ts xs in
        let left : Left v (world E v (map step_of (t ∷ us))) (t ∷ ts) c (y ∷ ys) =
        subst (λ (s : Served). Left v (world E s.world (map step_of us)) (t ∷ ts) c (y ∷ ys)) (sym e) (f _ r.left) in
        let live : unfinished (t ∷ us) (events E v (map step_of (t ∷ us))) ≡ live_of (t ∷ ts) (y ∷ ys) =
        subst (λ (s : Served). unfinished (t ∷ us) (s.event ∷ events E s.world (map step_of us)) ≡ live_of (t ∷ ts) (y ∷ ys)) (sym e)
        (same_live t us ts ev (events E u (map step_of us)) y ys g r.live) in
        let heard : (b : ℕ → Option Last) → Told b (t ∷ ts) (x ∷ xs) → Heard b (events E v (map step_of (t ∷ us))) (t ∷ ts) (y ∷ ys) =
        λ b k. subst (λ (s : Served). Heard b (s.event ∷ events E s.world (map step_of us)) (t ∷ ts) (y ∷ ys)) (sym e)
        (first-heard b t ts (events E u (map step_of us)) y ys apart ev a
        (r.heard _ (told-kept b (λ i. answers i (b i) ev) t.number ts xs (λ i d. a.others i d (b i)) apart k.1))) in
        record { left = rw (live_on t ts x xs h) left; live = rw (live_on t ts x xs h) live; heard = rw (live_on t ts x xs h) heard }

    -- no step of this one
    next-went : is_unfinished x.last ≡ false → ((w : World) → Left v w ts c ys → Left v w (t ∷ ts) c (x ∷ ys)) → Went v ts xs c ys
        → Went v (t ∷ ts) (x ∷ xs) c (x ∷ ys)
    unfolding Told
    next-went h f r = record {
      left = rw (live-off t ts x xs h) (f _ r.left);
      live = rw (live-off t ts x xs h) (r.live ∙ sym (live-off t ts x ys h));
      heard = λ b k. rw (live-off t ts x xs h) (rest-heard b t ts _ x ys apart k.0 (r.heard b k.1));
    }

  -- the first of a list, then the others
  module _ (v : World) (t : Turn) (ts : List Turn) (x : Listed) (xs : List Listed) (c : Common) (e : common_of v ≡ c)
      (apart : Each (λ u. u.number ≢ t.number) ts) (mine : v.newest t.number ≡ x.point)
      (busy : is_unfinished x.last ≡ true → is_joined v.shared t.number ≡ true) (g : Together v ts xs)
      (ih : (u : World) (d : Common) → common_of u ≡ d → Together u ts xs → let r = in_turn (step_turn E) d xs in Went u ts xs r.common r.own) where
    abbrev Goal : Turned Common Listed → Type 0
    Goal d = let r = in_turn (step_turn E) d.common xs in Went v (t ∷ ts) (x ∷ xs) r.common (d.own ∷ r.own)

    cons-went : Goal (step_turn E c x)
    cons-went = go (is_unfinished x.last) refl
      where
        n : ℕ
        n = t.number

        o : Outcome
        o = stepping E c.words c.shared x.point

        u : World
        u = record { words = after E c.words o.store; shared = o.shared; newest = with_newest v n o.point }

        y : Listed
        y = record { point = o.point; last = answered o.step }

        same : (k : ℕ) → k ≢ n → u.newest k ≡ v.newest k
        same k h = with_newest-other v n o.point k h

        joined : u.shared.joined ≡ v.shared.joined
        joined = step-points E c.words c.shared x.point ∙ ap (λ (z : Common). z.shared.joined) (sym e)

        go : (b : Bool) → is_unfinished x.last ≡ b → Goal (step_turn E c x)
        go true h = subst Goal (sym (turn_on c x h))
            (first-went v t ts x xs _ _ apart h u _ (step-served v t c x e (handed-newest v n t.given (busy h) ∙ mine)) y refl
            (step-answered n x.point.head o.step o.bytes)
            (λ w l. first-left v u w t ts _ y _ apart (with_newest-same v n o.point) (λ z. busy h) same joined l)
            (ih u (common_of u) refl (together-kept v u n ts xs same joined apart g)))
        go false h = subst Goal (sym (turn-off c x h))
            (next-went v t ts x xs _ _ apart h (λ w l. first-left v v w t ts _ x _ apart mine busy (λ k z. refl) refl l) (ih v c e g))

  went : (ts : List Turn) (xs : List Listed) (v : World) (c : Common) → common_of v ≡ c → Apart ts → Together v ts xs
      → let r = in_turn (step_turn E) c xs in Went v ts xs r.common r.own
  unfolding in_turn Together
  went [] [] v c e a g = record {
    left = unfold live_of world in (record { common = e; together = tt; joined = refl; others = λ k p. refl });
    live = unfold live_of unfinished in refl;
    heard = λ f h. unfold live_of events in none-heard f [] [] h;
  }
  went [] (x ∷ xs) v c e a g = absurd g
  went (t ∷ ts) [] v c e a g = absurd g
  went (t ∷ ts) (x ∷ xs) v c e a g = cons-went v t ts x xs c e a.0 g.0.0 g.0.1 g.1 (λ u d z k. went ts xs u d z a.1 k)

  -- ---- rounds

  pub rounds-went : (k : ℕ) (ts : List Turn) (xs : List Listed) (v : World) (c : Common) → common_of v ≡ c → Apart ts → Together v ts xs
      → let r = rounds k (step_turn E) c xs in Left v (world E v (round_calls E k v (live_of ts xs))) ts r.common r.own
  unfolding rounds round_calls
  rounds-went zero ts xs v c e a g = unfold world in (record { common = e; together = g; joined = refl; others = λ k p. refl })
  rounds-went (suc k) ts xs v c e a g =
      let cs = map step_of (live_of ts xs) in
      let r = in_turn (step_turn E) c xs in
      let x = went ts xs v c e a g in
      let u = world E v cs in
      let y = rounds-went k ts r.own u r.common x.left.common a x.left.together in
      rw (world-after E v cs (round_calls E k u (unfinished (live_of ts xs) (events E v cs))), x.live) (record {
        common = y.common;
        together = y.together;
        joined = y.joined ∙ x.left.joined;
        others = λ i p. y.others i p ∙ x.left.others i p;
      })

  -- and what they answer
  pub rounds-heard : (k : ℕ) (ts : List Turn) (xs : List Listed) (v : World) (c : Common) → common_of v ≡ c → Apart ts → Together v ts xs
      → (f : ℕ → Option Last) → Told f ts xs → Heard f (events E v (round_calls E k v (live_of ts xs))) ts (rounds k (step_turn E) c xs).own
  unfolding rounds round_calls
  rounds-heard zero ts xs v c e a g f h = unfold events in none-heard f ts xs h
  rounds-heard (suc k) ts xs v c e a g f h =
      let cs = map step_of (live_of ts xs) in
      let r = in_turn (step_turn E) c xs in
      let x = went ts xs v c e a g in
      let u = world E v cs in
      let es = events E v cs in
      let y = x.heard f h in
      rw (events-after E v cs (round_calls E k u (unfinished (live_of ts xs) es)), x.live)
      (heard-after f es _ ts r.own _ y
      (rounds-heard k ts r.own u r.common x.left.common a x.left.together (afterwards f es) y.told))
