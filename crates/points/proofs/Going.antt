-- Whatever a step of a ready record does: its plan keeps the shared record fit, and where the write goes on, the point's record. Assumes nothing.
use Prim.Native.Nat.{ℕ, zero, suc, ◌≤◌, ◌<◌}
use native.Mathlib.Omega.{arith}
use mathlib.Core.Path.{◌≡◌, refl, sym, subst, ◌∙◌}
use mathlib.Core.Bool.{Bool, true, false}
use mathlib.Core.List.{List}
use lib.Dec.{leb, ltb}
use borrow.Author.Tests.{ltb-true, leb-false, eqb-true}
use Rattle.words.specs.Edition.{Edition, chain_max}
use Rattle.words.specs.Logic.{is_zero, first}
use Rattle.words.specs.Memory.{Memory, memory}
use Rattle.words.proofs.Logic.{and_left}
use Rattle.words.proofs.Tests.{nonzero, passes}
use Rattle.block_log.specs.declared.Shared.{Shared}
use Rattle.block_log.specs.Chain.{next_index}
use Rattle.block_log.specs.CatchUp.{Walk, ahead, place_after, broken}
use Rattle.block_log.proofs.Walk.{never}
use Rattle.block_log.proofs.CatchUp.{unbroken}
use Rattle.points.specs.declared.Write.{Write}
use Rattle.points.specs.declared.Head.{Head}
use Rattle.points.specs.declared.Point.{Point}
use Rattle.points.specs.declared.plan.Plan.{Plan}
use Rattle.points.specs.Record.{is_zeroing, is_writing, run_words, write_fits}
use Rattle.points.specs.Record.{file_at}
use Rattle.points.specs.Search.{search}
use Rattle.points.specs.Fill.{next_word}
use Rattle.points.specs.Plan.{read_in}
use Rattle.points.specs.Stepping.{commit, give_up, extend, zero_out, link, give_back, move_on, at_end, committing, extending}
use Rattle.points.specs.Stepping.{fill, write_on}
use Rattle.points.specs.Serving.{step_goes_on}
use Rattle.points.specs.Lent.{Lengthens}
use Rattle.points.proofs.Free.{search-spec}
use Rattle.points.proofs.RecordFacts.{PlaceFits}
use Rattle.points.proofs.RecordFacts.{ZeroingFits, write-zeroing-facts}
use Rattle.points.proofs.StepCases.{on-zeroing, on-filling, fill_on, commit-on, zero-on, link_on, full-on, lost-on, empty, ended}
use Rattle.points.proofs.StepCases.{store-on, end_on, move-on, end_reasons, extend-on, give-on, stop-on, go_on}
use Rattle.points.proofs.Kept.{FileFits, replay-fits, enter-fits, tail-fits}
use Rattle.points.proofs.Kept.{still-filling, still-zeroing, refilled-after}
use Rattle.points.proofs.Ready.{Tested}

-- ---- a plan

-- where the write goes on, its log place, what is under way and the file fit
pub record Goes (E : Edition) (words : List ℕ) (s : Shared) (p : Point) (plan : Plan) : Type 0 where
  pub place : PlaceFits E s.blocks plan.place
  pub write : write_fits E s.blocks plan.place plan.write ≡ true
  pub writing : is_writing plan.write.phase ≡ true
  pub file :
      FileFits E s.blocks (read_in plan.reads E (memory E words) s.blocks p.head.place plan.value (file_at p.head p.table))

-- and in any case the log place's block lies inside, and the chain is lengthened below 64 only
pub record Keeps (E : Edition) (words : List ℕ) (s : Shared) (p : Point) (plan : Plan) : Type 0 where
  pub block : plan.place.block < s.blocks
  pub chain : Lengthens plan.reports s.chain
  pub goes : step_goes_on plan.step ≡ true → Goes E words s p plan

module _ (E : Edition) (words : List ℕ) (s : Shared) (p : Point) (r : Tested E words s p) where
  abbrev m : Memory
  m = memory E words

  abbrev h : Head
  h = p.head

  abbrev w : Write
  w = p.head.write

  abbrev Ok : Plan → Type 0
  Ok = Keeps E words s p

  here : h.place.block < s.blocks
  here = r.place.block_inside

  fills : (k : ℕ) → is_zeroing w.phase ≡ false → k < run_words E w → Ok (fill E m s p k)
  unfolding fill read_in
  fills k z l =
      record {
        block = here;
        chain = tt;
        goes = λ e. record {
          place = r.place;
          write = still-filling E s.blocks h.place h.place w r.write w.phase (suc k) w.zeroing w.retries z (omega arith);
          writing = r.writing;
          file = r.file;
        };
      }

  commits : Ok (commit E h)
  unfolding commit
  commits = record { block = here; chain = tt; goes = λ e. never e }

  gives_up : (n : ℕ) → Ok (give_up E h n)
  unfolding give_up
  gives_up n = record { block = here; chain = tt; goes = λ e. never e }

  extends : (b : ℕ) → 1 ≤ b → b < s.blocks → h.place.slot ≡ E.block_words → Ok (extend E h b)
  unfolding extend read_in
  extends b low few slot =
      record {
        block = here;
        chain = tt;
        goes = λ e. record {
          place = r.place;
          write = still-zeroing E s.blocks h.place h.place w r.write 0 b w.retries low few (omega arith) slot;
          writing = refl;
          file = r.file;
        };
      }

  gives_back : Ok (give_back E h)
  unfolding give_back read_in
  gives_back =
      record {
        block = here;
        chain = tt;
        goes = λ e. record {
          place = r.place;
          write = still-filling E s.blocks h.place h.place w r.write _ _ _ _ refl (omega arith);
          writing = refl;
          file = r.file;
        };
      }

  module _ (z : is_zeroing w.phase ≡ true) where
    abbrev facts : ZeroingFits E s.blocks h.place w
    facts = write-zeroing-facts E s.blocks h.place w r.write z

    zeroes : w.position < E.block_words → Ok (zero_out E h)
    unfolding zero_out read_in
    zeroes l =
        record {
          block = here;
          chain = tt;
          goes = λ e. record {
            place = r.place;
            write =
                still-zeroing E s.blocks h.place h.place w r.write (suc w.position) w.zeroing w.retries
                facts.zeroing-some facts.zeroing-inside (omega arith) facts.slot-last;
            writing = refl;
            file = r.file;
          };
        }

    links : s.chain < chain_max → Ok (link E h)
    unfolding link read_in
    links l =
        record {
          block = facts.zeroing-inside;
          chain = l;
          goes = λ e. record {
            place = enter-fits E s.blocks w.zeroing facts.zeroing-some facts.zeroing-inside;
            write = still-filling E s.blocks h.place _ w r.write _ _ _ _ refl (omega arith);
            writing = refl;
            file = r.file;
          };
        }

    extending-keeps : (a b c : Bool) → ltb w.position E.block_words ≡ a → is_zero (next_index m h.place.block) ≡ b
        → leb chain_max s.chain ≡ c → Ok (extending E m h s.chain)
    extending-keeps true b c e f l = subst Ok (sym (zero-on E m h s.chain e)) (zeroes (ltb-true _ _ e))
    extending-keeps false true true e f l = subst Ok (sym (full-on E m h s.chain e f l)) (gives_up 20)
    extending-keeps false true false e f l = subst Ok (sym (link_on E m h s.chain e f l)) (links (leb-false chain_max s.chain l))
    extending-keeps false false c e f l = subst Ok (sym (lost-on E m h s.chain e f)) gives_back

  abbrev walked : Walk
  walked = ahead E m s.blocks h.place

  moves : (b : Bool) → broken E s.blocks walked ≡ b → Ok (move_on E m h s.blocks)
  unfolding read_in
  moves true e = subst Ok (sym (stop-on E m h s.blocks e)) (record { block = here; chain = tt; goes = λ e. never e })
  moves false e =
      let at = tail-fits E words s.blocks h.place r.place in
      let again = refilled-after E s.blocks h.place (place_after walked) w r.write walked.entries in
      subst Ok (sym (go_on E m h s.blocks e)) (record {
        block = at.block_inside;
        chain = tt;
        goes = λ g. record {
          place = at;
          write = again.0;
          writing = again.1;
          file = replay-fits E s.blocks walked.entries (file_at h p.table) (unbroken E s.blocks walked e).legal r.file;
        };
      })

  ends : (slot : h.place.slot ≡ E.block_words) (k : ℕ) → first (end_reasons E m h s) ≡ k → Ok (at_end E m h s)
  ends slot zero e =
      let some = nonzero (search s 1) (passes (end_reasons E m h s) refl e 1) in
      subst Ok (sym (extend-on E m h s e)) (extends (search s 1) (omega (arith, some)) (omega (arith, (search-spec s 1 some).in_image)) slot)
  ends slot (suc k) e = subst Ok (sym (give-on E m h s k e)) (gives_up (suc k))

  committing-keeps : (a b : Bool) → empty E m h ≡ a → ended E m h ≡ b → Ok (committing E m h s)
  committing-keeps true b e f = subst Ok (sym (store-on E m h s e)) commits
  committing-keeps false true e f =
      subst Ok (sym (end_on E m h s e f)) (ends (eqb-true h.place.slot E.block_words (and_left _ _ f)) (first (end_reasons E m h s)) refl)
  committing-keeps false false e f = subst Ok (sym (move-on E m h s e f)) (moves (broken E s.blocks walked) refl)

  write_keeps : (a b : Bool) → is_zeroing w.phase ≡ a → ltb (next_word E w) (run_words E w) ≡ b → Ok (write_on E m s p)
  write_keeps true b e f = subst Ok (sym (on-zeroing E m s p e))
      (extending-keeps e (ltb w.position E.block_words) (is_zero (next_index m h.place.block)) (leb chain_max s.chain) refl refl refl)
  write_keeps false true e f = subst Ok (sym (on-filling E m s p e ∙ fill_on E m s p f)) (fills (next_word E w) e (ltb-true _ _ f))
  write_keeps false false e f = subst Ok (sym (on-filling E m s p e ∙ commit-on E m s p f)) (committing-keeps (empty E m h) (ended E m h) refl refl)

  pub on-keeps : Ok (write_on E m s p)
  on-keeps = write_keeps (is_zeroing w.phase) (ltb (next_word E w) (run_words E w)) refl refl
