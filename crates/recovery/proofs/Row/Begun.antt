-- The beginnings of a row store nothing, and a point whose write is begun has caught up: so nothing is ahead of any, and its rank is at most the rounds.
use mathlib.Core.Path.{◌≡◌, refl, sym, ap, subst}
use mathlib.Core.List.{List, [], ◌∷◌, map}
use mathlib.Core.Bool.{true, false}
use Prim.Native.Nat.{ℕ, zero, suc, ◌+◌, ◌-◌, ◌≤◌, ◌<◌}
use native.Mathlib.Omega.{arith}
use lib.ListN.{length, get_or}
use Rattle.words.specs.Edition.{Edition}
use Rattle.words.specs.Logic.{all_of}
use Rattle.words.specs.Memory.{memory}
use Rattle.words.proofs.Logic.{and_left, and_right}
use Rattle.words.proofs.Tests.{no_true}
use Rattle.block_log.specs.CatchUp.{Walk, ahead, place_after}
use Rattle.points.specs.declared.Begun.{Begun}
use Rattle.points.specs.declared.Point as PP
use Rattle.points.specs.Record.{is_joined, is_writing, is_zeroing, run_words, run_most, caught_up}
use Rattle.points.specs.Calls.{beginning, begin_refusal}
use Rattle.points.specs.Serving.{serve_rounds}
use Rattle.points.proofs.NotRefused.{begin-either, begin-joined}
use Rattle.points.proofs.Phases.{writing-busy}
use Rattle.recovery.specs.World.{World, handed, with_newest, serve, world, events}
use Rattle.recovery.specs.History.{bytes_in}
use Rattle.recovery.specs.Row.{Turn, begin_of, goes_on, reply_goes_on, unfinished, begun_world, begun_turns}
use Rattle.recovery.proofs.Demand3.{small-text}
use Rattle.recovery.proofs.Model.Walk.{stop}
use Rattle.recovery.proofs.Calls.Mapping.{handed-newest, is-joined, with_newest-same}
use Rattle.recovery.proofs.Calls.Begin.{ahead-is, begin-tied, done, begin-eq-done, begin-eq-refused}
use Rattle.recovery.proofs.Lone.Bystander.{Kept, begin-kept}
use Rattle.recovery.proofs.LoneWrite.{few_words, left-most}
use Rattle.recovery.proofs.Row.Rank.{rank-plain, waits, waits-le, cost-most}
use Rattle.recovery.proofs.Row.Sight.{sight, from-core}
use Rattle.recovery.proofs.Row.Listed.{Each, either}
use Rattle.recovery.proofs.Row.OneTurn.{Live, Holds}

-- a write is begun, and nothing is ahead of the point
pub record Fresh (E : Edition) (w : World) (k : ℕ) : Type 0 where
  pub joined : is_joined w.shared k ≡ true
  pub writing : is_writing (w.newest k).head.write.phase ≡ true
  pub plain : is_zeroing (w.newest k).head.write.phase ≡ false
  pub none : (sight E w k).entries ≡ []

fresh_kept : {E : Edition} (w v : World) (k : ℕ) → Kept w v k → Fresh E w k → Fresh E v k
fresh_kept w v k e f = record {
  joined = e.joined;
  writing = rw e.newest f.writing;
  plain = rw e.newest f.plain;
  none = rw (e.newest, e.words, e.blocks) f.none;
}

-- by its record
fresh-by : {E : Edition} (w : World) (k : ℕ) (q : PP.Point) → is_joined w.shared k ≡ true → w.newest k ≡ q → is_writing q.head.write.phase ≡ true
    → is_zeroing q.head.write.phase ≡ false → (ahead E (memory E w.words) w.shared.blocks q.head.place).entries ≡ [] → Fresh E w k
fresh-by w k q j e b z n = record { joined = j; writing = rw e b; plain = rw e z; none = rw e n }

-- ---- one beginning

module _ {E : Edition} (w : World) (h : Holds E w) (t : Turn) (bytes : bytes_in (begin_of t) ≡ true) where
  abbrev o : ℕ
  o = t.request.offset

  abbrev text : List ℕ
  text = t.request.text

  abbrev k : ℕ
  k = t.number

  abbrev y : PP.Point
  y = handed w k t.given

  small : (i : ℕ) → get_or text i 0 < 256
  small = small-text text bytes

  begin-holds : Holds E (serve E w (begin_of t)).world
  unfolding serve
  begin-holds = record { log = _; book = _; tied = begin-tied w h.book h.tied k t.given o text small }

  begin-others : (i : ℕ) → Fresh E w i → Fresh E (serve E w (begin_of t)).world i
  begin-others i f = fresh_kept w (serve E w (begin_of t)).world i
      (begin-kept w h.book h.tied i f.joined (writing-busy (w.newest i).head.write.phase f.writing) k t.given o text small) f

  abbrev after : Begun → World
  after r = record { words = w.words; shared = r.shared; newest = with_newest w k r.point }

  -- from where a point that has caught up stands there is nothing to read
  caught-none : is_joined w.shared k ≡ true → (ahead E (memory E w.words) w.shared.blocks
      (caught_up E (ahead E (memory E w.words) w.shared.blocks y.head.place) y).head.place).entries ≡ []
  unfolding caught_up
  caught-none j = rw (handed-newest w k t.given j) (ap (λ (x : Walk). x.entries)
      (from-core h.tied.inv.core (place_after (sight E w k))
      (stop (ap (λ (x : Walk). x.block) (ahead-is w h.book h.tied k j)) (ap (λ (x : Walk). x.slot) (ahead-is w h.book h.tied k j)))))

  begin-fresh : goes_on (serve E w (begin_of t)).event ≡ true → Fresh E (serve E w (begin_of t)).world k
  unfolding serve
  begin-fresh g = go (begin_refusal E w.words w.shared y.head y.table o (length text)) refl
    where
      begun : Begun
      begun = done w h.book h.tied k t.given o text small y

      go : (i : ℕ) → begin_refusal E w.words w.shared y.head y.table o (length text) ≡ i
          → Fresh E (after (beginning E w.words w.shared y o text)) k
      go zero e =
          let j = is-joined w h.book h.tied k t.given
          (begin-joined E w.words w.shared y o (length text) (begin-either E w.words w.shared y o (length text) e)) in
          subst (λ (r : Begun). Fresh E (after r) k) (sym (begin-eq-done w h.book h.tied k t.given o text small y e))
          (fresh-by (after begun) k begun.point j (with_newest-same w k begun.point) refl refl (caught-none j))
      go (suc i) e = absurd (no_true g
          (ap (λ (r : Begun). reply_goes_on r.reply) (begin-eq-refused w h.book h.tied k t.given o text small y i e)))

-- ---- the beginnings

pub record BegunRow (E : Edition) (w v : World) (us : List Turn) : Type 0 where
  pub holds : Holds E v
  pub fresh : Each (λ t. Fresh E v t.number) us
  pub others : (k : ℕ) → Fresh E w k → Fresh E v k

pub all-begun : (E : Edition) (ts : List Turn) (w : World) → Holds E w → all_of bytes_in (map begin_of ts) ≡ true
    → BegunRow E w (begun_world E w ts) (begun_turns E w ts)
unfolding world events
all-begun E [] w h bytes = record { holds = h; fresh = unfold unfinished in tt; others = λ k f. f }
all-begun E (t ∷ ts) w h bytes =
    let b = and_left (bytes_in (begin_of t)) (all_of bytes_in (map begin_of ts)) bytes in
    let v = (serve E w (begin_of t)).world in
    let did = (serve E w (begin_of t)).event in
    let x = all-begun E ts v (begin-holds w h t b) (and_right (bytes_in (begin_of t)) (all_of bytes_in (map begin_of ts)) bytes) in
    record {
      holds = x.holds;
      fresh = either t ts did (events E v (map begin_of ts)) (Each (λ u. Fresh E (begun_world E v ts) u.number))
          (λ g. (x.others t.number (begin-fresh w h t b g), x.fresh)) (λ g. x.fresh);
      others = λ k f. x.others k (begin-others w h t b k f);
    }

-- ---- their ranks

rounds_are : (E : Edition) (n : ℕ) → serve_rounds E n ≡ waits E (n - 1) + (run_most E + 1 + E.block_words + 1 + 1 + 1)
unfolding waits
rounds_are E n = refl

pub fresh-live : {E : Edition} (w : World) → Holds E w → (k n all : ℕ) → n ≤ all → Fresh E w k → Live E n w (serve_rounds E all) k
fresh-live {E} w h k n all l f =
    let p = w.newest k in
    let left = left-most E p.head.write.phase (run_words E p.head.write) p.head.write.position
    (few_words w h.book h.tied k f.joined f.writing) in
    let none : length (sight E w k).entries ≡ 0 = ap length f.none in
    let u = waits-le E (n - 1 + length (sight E w k).entries) (all - 1) (omega arith) in
    let c = cost-most E (n - 1) (sight E w k) p.head.place.block in
    record {
      joined = f.joined;
      writing = f.writing;
      settled = λ z. absurd (no_true z f.plain);
      low = rw (rank-plain E (n - 1) (sight E w k) p f.plain, rounds_are E all) (omega arith);
    }
