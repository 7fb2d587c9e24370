-- The call that serves a list of points is the row of calls: its beginnings go together with those of the row, then its rounds (Row.Together).
use Rattle.std.specs.Prelude.{Ok, Err}
use Prim.Native.Nat.{ℕ, zero, suc}
use native.Mathlib.Omega.{arith}
use mathlib.Core.Path.{◌≡◌, refl, sym, ap, ap₂, ◌∙◌, subst}
use mathlib.Core.Logic.{◌≢◌}
use mathlib.Core.Bool.{true, false, ◌||◌, not}
use mathlib.Core.List.{List, [], ◌∷◌, map}
use mathlib.Core.Option.{Option, none}
use lib.ListN.{length}
use lib.Dec.{eqb}
use borrow.Author.Tests.{not-false}
use Rattle.words.specs.Edition.{Edition}
use Rattle.words.specs.Word.{bit}
use Rattle.words.specs.Logic.{between, ◌when◌}
use Rattle.words.proofs.Tests.{no_true, passes}
use Rattle.words.proofs.Choice.{chosen-zero, chosen-suc}
use Rattle.block_log.specs.declared.Shared.{Shared}
use Rattle.block_log.specs.Refusals.{Reply}
use Rattle.block_log.specs.Refusals.{Done, Refused}
use Rattle.block_log.specs.Opening.{reply_of}
use Rattle.points.specs.declared.Begun.{Begun}
use Rattle.points.specs.declared.Point.{Point}
use Rattle.points.specs.Record.{is_joined}
use Rattle.points.specs.Calls.{beginning, begin_refusal}
use Rattle.points.specs.Serving.{Request, asking, Common, Last, Listed, Turned, in_turn, row, begin_turn, step_turn, is_unfinished, begun as answered}
use Rattle.points.specs.Serving.{Service, serving, serve_refusal, serve_rounds, point_numbers, points_of, lasts_of, twice}
use Rattle.points.proofs.NotRefused.{begin-either, begin-joined}
use Rattle.points.proofs.Replies.{begin-points, begin-replies}
use Rattle.recovery.specs.World.{World, begun, numbered, handed, with_newest, Served, serve, world, events}
use Rattle.recovery.specs.Row.{Turn, begin_of, reply_goes_on, unfinished, begun_world, begun_turns, round_calls, row_calls}
use Rattle.recovery.specs.Served.{TurnsOf, RowServed, ServeServed}
use Rattle.recovery.proofs.Calls.Mapping.{with_newest-same, with_newest-other}
use Rattle.recovery.proofs.Row.Listed.{Each, Apart, not-among, once-apart, world-after, events-after}
use Rattle.recovery.proofs.Row.Heard.{Told, Heard, begun-answered, none-heard, first-heard, heard-after, afterwards, told-lasts}
use Rattle.recovery.proofs.Row.Together.{live_of, Together, common_of, Left, same_live, first-left, rounds-went, rounds-heard}

-- ---- the beginnings

-- each hands in its record, has its number and its write
Hands : World → List Turn → List Point → List Request → Type 0
Hands v [] [] [] = Unit {0}
Hands v (t ∷ ts) (p ∷ ps) (q ∷ qs) =
    ((handed v t.number t.given ≡ p) × (t.number ≡ p.head.number) × (t.request ≡ q)) × Hands v ts ps qs
Hands v [] [] (q ∷ qs) = ⊥
Hands v [] (p ∷ ps) qs = ⊥
Hands v (t ∷ ts) [] qs = ⊥
Hands v (t ∷ ts) (p ∷ ps) [] = ⊥

handed-same : (v u : World) (k : ℕ) (p : Point) → u.shared.joined ≡ v.shared.joined → u.newest k ≡ v.newest k → handed u k p ≡ handed v k p
unfolding handed
handed-same v u k p e f = ap₂ (λ (j : ℕ) (x : Point). elim (bit j k) [ true ↦ x | false ↦ numbered k p ]) e f

hands-kept : (v u : World) (n : ℕ) (ts : List Turn) (ps : List Point) (qs : List Request) → ((k : ℕ) → k ≢ n → u.newest k ≡ v.newest k)
    → u.shared.joined ≡ v.shared.joined → Each (λ t. t.number ≢ n) ts → Hands v ts ps qs → Hands u ts ps qs
unfolding Hands
hands-kept v u n [] [] [] same jo a g = tt
hands-kept v u n (t ∷ ts) (p ∷ ps) (q ∷ qs) same jo a g = (
  (handed-same v u t.number t.given jo (same t.number a.0) ∙ g.0.0, g.0.1, g.0.2),
  hands-kept v u n ts ps qs same jo a.1 g.1,
)
hands-kept v u n [] [] (q ∷ qs) same jo a g = absurd g
hands-kept v u n [] (p ∷ ps) qs same jo a g = absurd g
hands-kept v u n (t ∷ ts) [] qs same jo a g = absurd g
hands-kept v u n (t ∷ ts) (p ∷ ps) [] same jo a g = absurd g

module _ (E : Edition) where
  record Began (v : World) (ts : List Turn) (c : Common) (ys : List Listed) : Type 0 where
    left : Left v (world E v (map begin_of ts)) ts c ys
    live : unfinished ts (events E v (map begin_of ts)) ≡ live_of ts ys
    heard : (f : ℕ → Option Last) → Heard f (events E v (map begin_of ts)) ts ys

  begin-served : (v : World) (t : Turn) (c : Common) (p : Point) → common_of v ≡ c → handed v t.number t.given ≡ p
      → let b = beginning E c.words c.shared p t.request.offset t.request.text in
      serve E v (begin_of t) ≡ record {
        event = begun t.number t.request.offset t.request.text b.reply;
        world = record { words = c.words; shared = b.shared; newest = with_newest v t.number b.point };
      }
  unfolding serve
  begin-served v t c p e h =
      let i : v.words ≡ c.words = ap (λ (y : Common). y.words) e in let s : v.shared ≡ c.shared = ap (λ (y : Common). y.shared) e in rw (h, i, s)

  same-reply : (r : Reply) → reply_goes_on r ≡ is_unfinished (answered r)
  same-reply (Ok tt) = refl
  same-reply (Err e) = refl

  -- one whose write is begun is joined
  begun-joined : (words : List ℕ) (s : Shared) (p : Point) (o : ℕ) (text : List ℕ) → reply_goes_on (beginning E words s p o text).reply ≡ true
      → is_joined s p.head.number ≡ true
  begun-joined words s p o text g = go (begin_refusal E words s p.head p.table o (length text)) refl
    where
      go : (k : ℕ) → begin_refusal E words s p.head p.table o (length text) ≡ k → is_joined s p.head.number ≡ true
      go zero e = not-false _ (begin-joined E words s p o (length text) (begin-either E words s p o (length text) e))
      go (suc k) e = absurd (no_true g (ap reply_goes_on (begin-replies E words s p o text ∙ ap reply_of e)))

  -- the first of a list, then the others
  module _ (v : World) (t : Turn) (ts : List Turn) (p : Point) (ps : List Point) (qs : List Request) (c : Common) (e : common_of v ≡ c)
      (apart : Each (λ u. u.number ≢ t.number) ts) (hand : handed v t.number t.given ≡ p) (number : t.number ≡ p.head.number)
      (g : Hands v ts ps qs)
      (ih : (u : World) (d : Common) → common_of u ≡ d → Hands u ts ps qs
      → let r = in_turn (begin_turn E) d (asking ps qs) in Began u ts r.common r.own) where
    abbrev n : ℕ
    n = t.number

    abbrev b : Begun
    b = beginning E c.words c.shared p t.request.offset t.request.text

    abbrev u : World
    u = record { words = c.words; shared = b.shared; newest = with_newest v n b.point }

    abbrev y : Listed
    y = record { point = b.point; last = answered b.reply }

    joined : u.shared.joined ≡ v.shared.joined
    joined = begin-points E c.words c.shared p t.request.offset t.request.text ∙ ap (λ (z : Common). z.shared.joined) (sym e)

    busy : is_unfinished y.last ≡ true → is_joined v.shared n ≡ true
    busy h =
        let j = begun-joined c.words c.shared p t.request.offset t.request.text (same-reply b.reply ∙ h) in
        let s : v.shared ≡ c.shared = ap (λ (z : Common). z.shared) e in rw (s, number) j

    cons-began : let r = in_turn (begin_turn E) (common_of u) (asking ps qs) in Began v (t ∷ ts) r.common (y ∷ r.own)
    unfolding world events
    cons-began =
        let same : (k : ℕ) → k ≢ n → u.newest k ≡ v.newest k = λ k h. with_newest-other v n b.point k h in
        let s = begin-served v t c p e hand in
        let r = in_turn (begin_turn E) (common_of u) (asking ps qs) in
        let x = ih u (common_of u) refl (hands-kept v u n ts ps qs same joined apart g) in
        let cs = map begin_of ts in
        record {
          left = subst (λ (z : Served). Left v (world E z.world cs) (t ∷ ts) r.common (y ∷ r.own)) (sym s)
              (first-left v u (world E u cs) t ts r.common y r.own apart (with_newest-same v n b.point) busy same joined x.left);
          live = subst (λ (z : Served). unfinished (t ∷ ts) (z.event ∷ events E z.world cs) ≡ live_of (t ∷ ts) (y ∷ r.own)) (sym s)
              (same_live t ts ts _ (events E u cs) y r.own (same-reply b.reply) x.live);
          heard = λ f. subst (λ (z : Served). Heard f (z.event ∷ events E z.world cs) (t ∷ ts) (y ∷ r.own)) (sym s)
              (first-heard f t ts (events E u cs) y r.own apart _ (begun-answered n t.request.offset t.request.text b.reply) (x.heard _));
        }

  began : (ts : List Turn) (ps : List Point) (qs : List Request) (v : World) (c : Common) → common_of v ≡ c → Apart ts → Hands v ts ps qs
      → let r = in_turn (begin_turn E) c (asking ps qs) in Began v ts r.common r.own
  unfolding in_turn Hands begin_turn Together
  began [] [] [] v c e a g = record {
    left = unfold world in (record { common = e; together = tt; joined = refl; others = λ k p. refl });
    live = unfold live_of unfinished in refl;
    heard = λ f. unfold events Told in none-heard f [] [] tt;
  }
  began (t ∷ ts) (p ∷ ps) (q ∷ qs) v c e a g =
      subst (λ (z : Request). let r = in_turn (begin_turn E) c (asking (p ∷ ps) (z ∷ qs)) in Began v (t ∷ ts) r.common r.own) g.0.2
      (cons-began v t ts p ps qs c e a.0 g.0.0 g.0.1 g.1 (λ u d z k. began ts ps qs u d z a.1 k))
  began [] [] (q ∷ qs) v c e a g = absurd g
  began [] (p ∷ ps) qs v c e a g = absurd g
  began (t ∷ ts) [] qs v c e a g = absurd g
  began (t ∷ ts) (p ∷ ps) [] v c e a g = absurd g

-- ---- the call

turns-hand : (w : World) (words : List ℕ) (s : Shared) (ts : List Turn) (ps : List Point) (qs : List Request) → TurnsOf w words s ts ps qs
    → Hands w ts ps qs × (map (λ t. t.number) ts ≡ point_numbers ps) × (length ts ≡ length ps)
unfolding Hands
turns-hand w words s [] [] [] g = (tt, refl, refl)
turns-hand w words s (t ∷ ts) (p ∷ ps) (q ∷ qs) g =
    let r = turns-hand w words s ts ps qs g.1 in
    (((g.0.0.record_is, g.0.1, g.0.2), r.0), rw (g.0.1, r.1), rw r.2)
turns-hand w words s [] [] (q ∷ qs) g = absurd g
turns-hand w words s [] (p ∷ ps) qs g = absurd g
turns-hand w words s (t ∷ ts) [] qs g = absurd g
turns-hand w words s (t ∷ ts) (p ∷ ps) [] g = absurd g

-- the newest records are the listed ones
together-points : (v : World) (ts : List Turn) (xs : List Listed) → Together v ts xs → map (λ t. v.newest t.number) ts ≡ points_of xs
unfolding Together
together-points v [] [] g = refl
together-points v (t ∷ ts) (x ∷ xs) g = rw (g.0.0, together-points v ts xs g.1)
together-points v [] (x ∷ xs) g = absurd g
together-points v (t ∷ ts) [] g = absurd g

module _ (E : Edition) (words : List ℕ) (s : Shared) (ps : List Point) (qs : List Request) where
  abbrev pub refusal : ℕ
  refusal = serve_refusal (point_numbers ps) (length qs)

  abbrev first : Common
  first = record { words = words; shared = s }

  abbrev after : Turned Common (List Listed)
  after = row (begin_turn E) (step_turn E) (serve_rounds E (length ps)) first (asking ps qs)

  abbrev pub served : Service
  served = record { reply = Done; common = after.common; points = points_of after.own; lasts = lasts_of after.own }

  abbrev pub stopped : ℕ → Service
  stopped n = record { reply = Refused (suc n); common = first; points = ps; lasts = [] }

  pub is-served : refusal ≡ 0 → serving E words s ps qs ≡ served
  unfolding serving
  is-served e = chosen-zero refusal served stopped e

  pub is-stopped : (n : ℕ) → refusal ≡ suc n → serving E words s ps qs ≡ stopped n
  unfolding serving
  is-stopped n e = chosen-suc refusal n served stopped e

  -- 27 does not hold
  once : refusal ≡ 0 → twice (point_numbers ps) ≡ false
  unfolding serve_refusal
  once e = passes
      (26 when (not (between 1 (length (point_numbers ps)) 32) || not (eqb (length qs) (length (point_numbers ps)))) ∷ 27 when twice (point_numbers ps) ∷ [])
      refl e 1

  row-served : refusal ≡ 0 → (w : World) → w.words ≡ words → w.shared ≡ s → (ts : List Turn) → TurnsOf w words s ts ps qs
      → let calls = row_calls E w ts in RowServed w (world E w calls) (events E w calls) ts served
  unfolding row_calls row
  row-served unrefused w i j ts g =
      let h = turns-hand w words s ts ps qs g in
      let a = once-apart ts (rw h.1 (once unrefused)) in
      let x = in_turn (begin_turn E) first (asking ps qs) in
      let b = began E ts ps qs w first (λ k. record { words = i k; shared = j k }) a h.0 in
      let v = begun_world E w ts in
      let k = serve_rounds E (length ps) in
      let y = rounds-went E k ts x.own v x.common b.left.common a b.left.together in
      let cs = map begin_of ts in
      let ds = round_calls E (serve_rounds E (length ts)) v (begun_turns E w ts) in
      let es = events E w cs in
      let z = b.heard (λ i. none) in
      let heard = heard-after (λ i. none) es _ ts x.own _ z
      (rounds-heard E k ts x.own v x.common b.left.common a b.left.together (afterwards (λ i. none) es) z.told) in
      rw (world-after E w cs ds, events-after E w cs ds, b.live, h.2) (record {
        image = ap (λ (z : Common). z.words) y.common;
        shared = ap (λ (z : Common). z.shared) y.common;
        listed = together-points _ ts after.own y.together;
        others = λ k p. y.others k (not-among k ts p) ∙ b.left.others k (not-among k ts p);
        answered = told-lasts _ ts after.own heard.told;
      })

  pub serve-served : (r : Service) → r ≡ serving E words s ps qs → ServeServed E words s ps qs r
  unfolding ServeServed
  serve-served r e = subst (ServeServed E words s ps qs) (sym e) (go refusal refl)
    where
      go : (n : ℕ) → refusal ≡ n → ServeServed E words s ps qs (serving E words s ps qs)
      go zero h = subst (ServeServed E words s ps qs) (sym (is-served h))
          (ap reply_of (sym h), λ d. row-served h, λ n d. let z : ◌≡◌ {A = ℕ} 0 1 = cc (d) in absurd (omega arith))
      go (suc n) h = subst (ServeServed E words s ps qs) (sym (is-stopped n h))
          (ap reply_of (sym h), λ d. let z : ◌≡◌ {A = ℕ} 0 1 = cc (d) in absurd (omega arith), λ k d. (refl, refl, refl))
