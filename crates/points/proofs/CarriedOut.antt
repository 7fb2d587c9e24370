-- What a step leaves that carries out the plan of each thing that it may do: answer, records and store, written out.
use mathlib.Core.Path.{◌≡◌, refl, ap}
use mathlib.Core.Bool.{Bool, true, false}
use mathlib.Core.List.{List, []}
use mathlib.Core.Option.{none, some}
use Prim.Native.Nat.{ℕ, zero, suc, ◌<◌}
use native.Mathlib.Omega.{arith}
use Rattle.words.specs.Edition.{Edition}
use Rattle.words.specs.Memory.{Memory}
use Rattle.words.specs.BlockMap.{set_block, set_all}
use Rattle.words.proofs.Sizes.{in_block}
use Rattle.block_log.specs.declared.Shared.{Shared}
use Rattle.block_log.specs.Replay.{Mapped, apply}
use Rattle.block_log.specs.CatchUp.{Walk, ahead, broken}
use Rattle.points.specs.declared.Phase.TheVariants.{Zeroing}
use Rattle.points.specs.declared.Write.{Write}
use Rattle.points.specs.declared.Head.{Head}
use Rattle.points.specs.declared.Point.{Point}
use Rattle.points.specs.declared.StepAnswer.TheVariants.{Stored, Moved, Extending, Committed, Refused}
use Rattle.points.specs.declared.plan.Reports.{Reports}
use Rattle.points.specs.declared.plan.Reports.TheVariants.{NoReport, Standing, Linked}
use Rattle.points.specs.declared.plan.Plan.{Plan}
use Rattle.points.specs.Record.{no_write, no_text, is_reading, file_at, point_of, standing, writing, with_head, caught_up}
use Rattle.points.specs.Search.{with_taken, reporting, reporting_place, lengthening}
use Rattle.points.specs.Fill.{new_word}
use Rattle.points.specs.Plan.{Outcome, untouched, carried_out, read_in, reported, freed, without_held, replaced, word_from}
use Rattle.block_log.specs.Refusals.{refusal}
use Rattle.points.specs.Stepping.{turned, to_commit, retried, filled, refill_after, next_slot, entering, entry_for}
use Rattle.block_log.specs.Refusals.{refusal}
use Rattle.points.specs.Stepping.{refused, commit, give_up, extend, zero_out, link, give_back, move_on, fill, planned, stepping}
use Rattle.points.proofs.StepCases.{go_on}
use Rattle.points.proofs.ReadCases.{write-kind, step_stays}

module _ (E : Edition) (m : Memory) (s : Shared) (p : Point) where
  abbrev h : Head
  h = p.head

  abbrev w : Write
  w = p.head.write

  abbrev out : Plan → Outcome
  out = carried_out E m s p

  -- ---- refused: nothing changes

  unfoldable pub after_refusal : ℕ → Outcome
  after_refusal n = untouched s p (Refused (refusal n))

  pub refusal-leaves : (n : ℕ) → out (refused E h n) ≡ after_refusal n
  unfolding carried_out read_in freed set_all after_refusal
  refusal-leaves n = refl

  -- ---- filling

  unfoldable pub after_fill : ℕ → Outcome
  after_fill k =
      record {
        step = Stored;
        shared = s;
        point = with_head p (writing h (filled w k));
        store = some (word_from E w.run k (new_word E m h p.table p.text k));
        bytes = [];
      }

  pub fill-leaves : (k : ℕ) → out (fill E m s p k) ≡ after_fill k
  unfolding carried_out read_in freed set_all fill after_fill
  fill-leaves k = refl

  -- ---- committing

  abbrev pub committed : Mapped
  committed = apply E (file_at h p.table) (entry_for E h)

  unfoldable pub after_commit : Outcome
  after_commit =
      record {
        step = Committed w.retries;
        shared = with_taken s (set_all false s.taken (replaced E w p.table));
        point = point_of (standing h committed.size (next_slot h.place) no_write) committed.table no_text;
        store = some (record { block = h.place.block; word = h.place.slot; value = entry_for E h });
        bytes = [];
      }

  pub commit-leaves : h.place.slot < E.block_words → out (commit E h) ≡ after_commit
  unfolding carried_out read_in freed set_all commit after_commit
  commit-leaves l = let at = in_block E h.place.block h.place.slot l in rw (at.0, at.1)

  unfoldable pub after_give_up : ℕ → Outcome
  after_give_up n =
      record {
        step = Refused (refusal n);
        shared = with_taken s (without_held E s.taken w);
        point = point_of (writing h no_write) p.table no_text;
        store = none;
        bytes = [];
      }

  pub give-up-leaves : (n : ℕ) → out (give_up E h n) ≡ after_give_up n
  unfolding carried_out read_in freed set_all give_up after_give_up
  give-up-leaves n = refl

  -- ---- moving on

  abbrev pub walked : Walk
  walked = ahead E m s.blocks h.place

  abbrev pub after_move : Outcome
  after_move =
      let c = caught_up E walked p in
      record {
        step = Moved;
        shared = reporting_place c.head s;
        point = with_head c (writing c.head (refill_after E walked.entries w));
        store = none;
        bytes = [];
      }

  pub move-leaves : broken E s.blocks walked ≡ false → out (move_on E m h s.blocks) ≡ after_move
  unfolding carried_out read_in freed set_all caught_up
  move-leaves e = ap out (go_on E m h s.blocks e)

  -- ---- extending

  unfoldable pub after_extend : ℕ → Outcome
  after_extend b =
      record {
        step = Extending;
        shared = with_taken s (set_block true s.taken b);
        point = with_head p (writing h (turned w Zeroing 0 b w.retries));
        store = none;
        bytes = [];
      }

  pub extend-leaves : (b : ℕ) → (b ≡ 0 → ⊥) → out (extend E h b) ≡ after_extend b
  unfolding carried_out read_in freed set_all extend after_extend
  extend-leaves zero n = absurd (n refl)
  extend-leaves (suc b) n = refl

  unfoldable pub after_zero : Outcome
  after_zero =
      record {
        step = Stored;
        shared = s;
        point = with_head p (writing h (turned w Zeroing (suc w.position) w.zeroing w.retries));
        store = some (record { block = w.zeroing; word = w.position; value = 0 });
        bytes = [];
      }

  pub zero-leaves : w.position < E.block_words → out (zero_out E h) ≡ after_zero
  unfolding carried_out read_in freed set_all zero_out after_zero
  zero-leaves l = let at = in_block E w.zeroing w.position l in rw (at.0, at.1)

  unfoldable pub after_link : Outcome
  after_link =
      record {
        step = Stored;
        shared = lengthening (reporting s h.number w.zeroing);
        point = with_head p (standing h h.length (entering w.zeroing) (to_commit E w w.retries));
        store = some (record { block = h.place.block; word = 0; value = w.zeroing });
        bytes = [];
      }

  pub link-leaves : out (link E h) ≡ after_link
  unfolding carried_out read_in freed set_all link after_link
  link-leaves = let at = in_block E h.place.block 0 (omega arith) in rw (at.0, at.1)

  unfoldable pub after_give_back : Outcome
  after_give_back =
      record {
        step = Moved;
        shared = with_taken s (set_block false s.taken w.zeroing);
        point = with_head p (writing h (to_commit E w (retried w)));
        store = none;
        bytes = [];
      }

  pub give-back-leaves : out (give_back E h) ≡ after_give_back
  unfolding carried_out read_in freed set_all give_back after_give_back
  give-back-leaves = refl

-- nobody joins or leaves by a step
reported-points : (r : Reports) (h : Head) (s : Shared) → (reported r h s).joined ≡ s.joined
reported-points NoReport h s = refl
reported-points Standing h s = refl
reported-points Linked h s = refl

pub step-points : (E : Edition) (words : List ℕ) (s : Shared) (p : Point) → (stepping E words s p).shared.joined ≡ s.joined
unfolding carried_out
step-points E words s p = go (is_reading p.head.write.phase) refl
  where
    go : (b : Bool) → is_reading p.head.write.phase ≡ b → (stepping E words s p).shared.joined ≡ s.joined
    go true e = (step_stays E words s p e).joined
    go false e = rw (write-kind E words s p e) (reported-points (planned E words s p).reports _ _)
