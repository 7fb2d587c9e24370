-- What stays in its bounds: reports that are below the block count, a file that legal entries change, a log place that moves to the tail, a write that
-- goes on. Each test of reason 11 is kept by itself. Assumes nothing.
use Prim.Native.Nat.{ℕ, zero, suc, ◌+◌, ◌*◌, ◌-◌, ◌≤◌, ◌<◌}
use native.Mathlib.Omega.{arith}
use mathlib.Core.Path.{◌≡◌, refl, ◌∙◌}
use mathlib.Core.Bool.{Bool, true, false, ◌&&◌, not}
use mathlib.Core.List.{List, [], ◌∷◌}
use mathlib.Core.Option.{Option, none, some}
use lib.ListN.{length, set, length-set}
use lib.Dec.{ltb}
use borrow.Author.Tests.{lt-ltb, le-leb, eq-eqb, not-false}
use Rattle.words.specs.Edition.{Edition, file_end}
use Rattle.words.specs.Logic.{some_of}
use Rattle.words.specs.Memory.{Store, memory, block_at, after}
use Rattle.words.proofs.Logic.{and_left, and_right, and_both, every-all, all-every, or_left, or_right}
use Rattle.words.proofs.Choice.{choose-false}
use Rattle.words.proofs.Sizes.{mul-lt}
use Rattle.block_log.specs.declared.Place.{Place}
use Rattle.block_log.specs.Entry.{entry_v, entry_b, entry_n, legal, covers}
use Rattle.block_log.specs.Opening.{bad_entry}
use Rattle.block_log.specs.Replay.{Mapped, map_run, apply, replay_on}
use Rattle.block_log.specs.CatchUp.{Walk, ahead, place_after}
use Rattle.block_log.proofs.Entry.{Valid, legal-valid}
use Rattle.block_log.proofs.Walk.{Ways, by-turns, here, tail-le, block-short}
use Rattle.points.specs.declared.Phase.{Phase}
use Rattle.points.specs.declared.Phase.TheVariants.{Zeroing}
use Rattle.points.specs.declared.Write.{Write}
use Rattle.points.specs.Record.{is_zeroing, is_writing, run_first, run_blocks, run_words, first_edge, last_edge}
use Rattle.points.specs.Record.{all_below, inside, place_fits, zeroing_fits, write_fits}
use Rattle.points.specs.Stepping.{turned, refill, refill_after}
use Rattle.points.proofs.RecordFacts.{PlaceFits}

-- ---- the image

pub after-length : (E : Edition) (words : List ℕ) (o : Option Store) → length (after E words o) ≡ length words
unfolding after
after-length E words none = refl
after-length E words (some s) = length-set words (s.block * E.block_words + s.word) s.value

-- ---- numbers below the block count

pub below_set : (blocks : ℕ) (bs : List ℕ) (i v : ℕ) → all_below blocks bs ≡ true → v < blocks → all_below blocks (set bs i v) ≡ true
unfolding all_below
below_set blocks [] i v e l = refl
below_set blocks (b ∷ bs) zero v e l = and_both (ltb v blocks) _ (lt-ltb v blocks l) (and_right (ltb b blocks) _ e)
below_set blocks (b ∷ bs) (suc i) v e l =
    and_both (ltb b blocks) _ (and_left (ltb b blocks) _ e) (below_set blocks bs i v (and_right (ltb b blocks) _ e) l)

below-run : (blocks : ℕ) (table : List ℕ) (v b n : ℕ) → all_below blocks table ≡ true → b + n ≤ blocks → all_below blocks (map_run table v b n) ≡ true
unfolding map_run
below-run blocks table v b zero e l = e
below-run blocks table v b (suc n) e l = below-run blocks (set table v b) (suc v) (suc b) n (below_set blocks table v b e (omega arith)) (omega arith)

-- ---- a file

pub record FileFits (E : Edition) (blocks : ℕ) (f : Mapped) : Type 0 where
  pub size : f.size ≤ file_end E
  pub table : all_below blocks f.table ≡ true

apply-fits : (E : Edition) (blocks : ℕ) (f : Mapped) (e : ℕ) → Valid E blocks e → FileFits E blocks f → FileFits E blocks (apply E f e)
unfolding apply
apply-fits E blocks f e v k =
    record {
      size = omega (arith, k.size, v.block, mul-lt E (entry_v e + entry_n e - 1) 256 (omega (arith, v.virtual, v.count)));
      table = below-run blocks f.table (entry_v e) (entry_b e) (entry_n e) k.table v.inside;
    }

pub replay-fits :
    (E : Edition) (blocks : ℕ) (es : List ℕ) (f : Mapped) → bad_entry E blocks es ≡ false → FileFits E blocks f → FileFits E blocks (replay_on E f es)
unfolding replay_on bad_entry
replay-fits E blocks [] f h k = k
replay-fits E blocks (e ∷ es) f h k =
    replay-fits E blocks es (apply E f e) (or_right (not (legal E blocks e)) _ h)
    (apply-fits E blocks f e (legal-valid E blocks e (not-false _ (or_left (not (legal E blocks e)) _ h))) k)

-- ---- a log place

pub place-fits : (E : Edition) (blocks : ℕ) (p : Place) → PlaceFits E blocks p → place_fits E blocks p ≡ true
unfolding place_fits
place-fits E blocks p f = all-every _ (
  and_both _ _ (le-leb 1 p.block f.block-some) (le-leb (p.block + 1) blocks (omega (arith, f.block_inside))),
  (and_both _ _ (le-leb 2 p.slot f.slot-low) (le-leb p.slot E.block_words f.slot-high), tt),
)

-- slot 2 of a block from 1 on
pub enter-fits : (E : Edition) (blocks b : ℕ) → 1 ≤ b → b < blocks → PlaceFits E blocks (record { block = b; slot = 2 })
enter-fits E blocks b l h =
    record { block-some = l; block_inside = h; slot-low = omega arith; slot-high = omega (arith, E.least) }

-- wherever the walk ends
module _ (E : Edition) (words : List ℕ) (blocks : ℕ) where
  abbrev Ends : ℕ → ℕ → ℕ → Walk → Type 0
  Ends room b i w = PlaceFits E blocks (record { block = b; slot = i }) → PlaceFits E blocks (place_after w)

  stays :
      (b i : ℕ) → PlaceFits E blocks (record { block = b; slot = i })
      → PlaceFits E blocks (record { block = b; slot = i + length (here (memory E words) b i) })
  stays b i f =
      record {
        block-some = f.block-some;
        block_inside = f.block_inside;
        slot-low = omega (arith, f.slot-low);
        slot-high = omega (arith, f.slot-high, tail-le i (block_at (memory E words) b), block-short E words b);
      }

  ends : Ways E (memory E words) blocks Ends
  ends = record {
    stop = λ room b i l f. stays b i f;
    last = λ room b i l z f. stays b i f;
    full = λ b i x l e f. stays b i f;
    out = λ room b i x l e o f. stays b i f;
    on = λ room b i x w l e o more f. more (enter-fits E blocks (suc x) (omega arith) o);
  }

  pub tail-fits : (p : Place) → PlaceFits E blocks p → PlaceFits E blocks (place_after (ahead E (memory E words) blocks p))
  unfolding ahead
  tail-fits p f = by-turns E (memory E words) blocks Ends ends blocks p.block p.slot f

-- ---- a write

module _ (E : Edition) (blocks : ℕ) (p q : Place) (w : Write) (e : write_fits E blocks p w ≡ true) where
  -- at another position of its run
  pub still-filling :
      (phase : Phase) (position zeroing retries : ℕ) → is_zeroing phase ≡ false → position ≤ run_words E w
      → write_fits E blocks q (turned w phase position zeroing retries) ≡ true
  unfolding write_fits
  still-filling phase position zeroing retries z l =
      let t = every-all _ e in
      all-every _ (t.0, (t.1.0, (t.1.1.0, (choose-false (is_zeroing phase) _ _ z ∙ le-leb position (run_words E w) l, tt))))

  -- with a log block inside that is zeroed
  pub still-zeroing :
      (position zeroing retries : ℕ) → 1 ≤ zeroing → zeroing < blocks → position ≤ E.block_words → q.slot ≡ E.block_words
      → write_fits E blocks q (turned w Zeroing position zeroing retries) ≡ true
  unfolding write_fits zeroing_fits
  still-zeroing position zeroing retries low few l slot =
      let t = every-all _ e in
      let block : inside blocks zeroing 1 ≡ true = and_both _ _ (le-leb 1 zeroing low) (le-leb (zeroing + 1) blocks (omega arith)) in
      all-every _ (
        t.0,
        (t.1.0, (t.1.1.0, (all-every _ (block, (le-leb position E.block_words l, (eq-eqb q.slot E.block_words slot, tt))), tt))),
      )

  -- filled again, or ready to commit
  refilled : (a b : Bool) → (write_fits E blocks q (refill a b E w) ≡ true) × (is_writing (refill a b E w).phase ≡ true)
  refilled true true = (still-filling _ _ _ _ refl (omega arith), refl)
  refilled true false = (still-filling _ _ _ _ refl (omega arith), refl)
  refilled false true = (still-filling _ _ _ _ refl (omega arith), refl)
  refilled false false = (still-filling _ _ _ _ refl (omega arith), refl)

  pub refilled-after : (es : List ℕ) → (write_fits E blocks q (refill_after E es w) ≡ true) × (is_writing (refill_after E es w).phase ≡ true)
  unfolding refill_after
  refilled-after es =
      refilled (first_edge E w && some_of (covers (run_first E w)) es) (last_edge E w && some_of (covers (run_first E w + run_blocks E w - 1)) es)
