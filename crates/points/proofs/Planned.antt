-- The plan of a step may be carried out, and what the parts of the code that carry it out leave is what its definition says.
use Prim.Native.Nat.{ℕ, zero, suc, ◌^◌, ◌<◌}
use mathlib.Core.Path.{◌≡◌, refl, sym, ap, subst, ◌∙◌}
use mathlib.Core.Bool.{Bool, true, false}
use mathlib.Core.List.{List, [], ◌∷◌}
use lib.Dec.{leb, ltb}
use borrow.Author.Tests.{leb-false}
use Rattle.words.specs.Edition.{Edition, one, chain_max}
use Rattle.words.specs.Logic.{is_zero, first}
use Rattle.words.specs.Memory.{Memory, memory, put, after}
use Rattle.words.specs.BlockMap.{set_all}
use Rattle.words.proofs.Sizes.{from_block}
use Rattle.block_log.specs.declared.Shared.{Shared}
use Rattle.block_log.specs.Chain.{next_index}
use Rattle.block_log.specs.CatchUp.{broken, ahead}
use Rattle.block_log.specs.Replay.{Mapped}
use Rattle.points.specs.declared.Head.{Head}
use Rattle.points.specs.declared.Point.{Point}
use Rattle.points.specs.declared.Numbers.{Numbers}
use Rattle.points.specs.declared.LentStepped.{LentStepped}
use Rattle.points.specs.declared.Stepped.{Stepped}
use Rattle.points.specs.declared.plan.Plan.{Plan}
use Rattle.points.specs.Record.{is_zeroing, is_reading, run_words, file_at, point_of, standing}
use Rattle.points.specs.Search.{shared_of, numbers_of, Known, with_taken}
use Rattle.points.specs.Fill.{next_word}
use Rattle.points.specs.Plan.{read_in, reported, text_after, freed, word_from, stored_at, answered, carried_out}
use Rattle.points.specs.Stepping.{commit, give_up, extend, zero_out, link, give_back, move_on, at_end, committing, extending}
use Rattle.points.specs.Stepping.{fill, write_on, step_refusal, planned, stepping, StepLeaves}
use Rattle.points.specs.Lent.{stepped_of, Lengthens, Readable, InTable, WriteTells, ReadTells, StepTells}
use Rattle.points.proofs.Fits.{of-known}
use Rattle.points.proofs.Spans.{lies}
use Rattle.points.proofs.Commits.{entry-for-legal}
use Rattle.points.proofs.Leaves.{joined_small}
use Rattle.points.proofs.StepFacts.{Ready, ready, refused-on, goes_on}
use Rattle.points.proofs.StepCases.{on-zeroing, on-filling, fill_on, commit-on, zero-on, link_on, full-on, lost-on, empty, ended}
use Rattle.points.proofs.StepCases.{store-on, end_on, move-on, end_reasons}
use Rattle.points.proofs.StepCases.{extend-on, give-on, stop-on, go_on}

-- ---- what a plan asks for

pub record Sound (E : Edition) (m : Memory) (s : Shared) (h : Head) (plan : Plan) : Type 0 where
  pub reads : Readable plan.reads E m s.blocks h.place plan.value
  pub frees : InTable plan.frees E h.write
  pub links : Lengthens plan.reports s.chain

module _ (E : Edition) (words : List ℕ) (s : Shared) (h : Head) (table : List ℕ) (f : Ready E words s h table) (joined : s.joined < 2 ^ 32) where
  abbrev m : Memory
  m = memory E words

  abbrev Ok : Plan → Type 0
  Ok = Sound E m s h

  commit-sound : Ok (commit E h)
  unfolding commit
  commit-sound =
      let r = f.run in
      let t = r.text in
      let few = f.shared.few-blocks in
      record {
        reads = (
          few,
          entry-for-legal E s.blocks h t.some-text t.few-text t.ends-inside r.run_some r.run_inside few
              (joined_small s.joined h.number joined f.joined),
        );
        frees = (lies E h.write.offset h.write.size t.some-text).in_file t.ends-inside;
        links = tt;
      }

  move-sound : (b : Bool) → broken E s.blocks (ahead E m s.blocks h.place) ≡ b → Ok (move_on E m h s.blocks)
  move-sound true e = subst Ok (sym (stop-on E m h s.blocks e)) (record { reads = tt; frees = tt; links = tt })
  move-sound false e = subst Ok (sym (go_on E m h s.blocks e)) (record { reads = (f.shared.few-blocks, e); frees = tt; links = tt })

  end-sound : (k : ℕ) → first (end_reasons E m h s) ≡ k → Ok (at_end E m h s)
  unfolding extend give_up
  end-sound zero e = subst Ok (sym (extend-on E m h s e)) (record { reads = tt; frees = tt; links = tt })
  end-sound (suc k) e = subst Ok (sym (give-on E m h s k e)) (record { reads = tt; frees = tt; links = tt })

  committing-sound : (a b : Bool) → empty E m h ≡ a → ended E m h ≡ b → Ok (committing E m h s)
  committing-sound true b e g = subst Ok (sym (store-on E m h s e)) commit-sound
  committing-sound false true e g = subst Ok (sym (end_on E m h s e g)) (end-sound (first (end_reasons E m h s)) refl)
  committing-sound false false e g = subst Ok (sym (move-on E m h s e g)) (move-sound (broken E s.blocks (ahead E m s.blocks h.place)) refl)

  extending-sound : (a b c : Bool) → ltb h.write.position E.block_words ≡ a → is_zero (next_index m h.place.block) ≡ b
      → leb chain_max s.chain ≡ c → Ok (extending E m h s.chain)
  unfolding zero_out link give_back give_up
  extending-sound true b c e g l = subst Ok (sym (zero-on E m h s.chain e)) (record { reads = tt; frees = tt; links = tt })
  extending-sound false true true e g l = subst Ok (sym (full-on E m h s.chain e g l)) (record { reads = tt; frees = tt; links = tt })
  extending-sound false true false e g l =
      subst Ok (sym (link_on E m h s.chain e g l)) (record { reads = tt; frees = tt; links = leb-false chain_max s.chain l })
  extending-sound false false c e g l = subst Ok (sym (lost-on E m h s.chain e g)) (record { reads = tt; frees = tt; links = tt })

  module _ (text : List ℕ) where
    abbrev p : Point
    p = point_of h table text

    write-sound : (a b : Bool) → is_zeroing h.write.phase ≡ a → ltb (next_word E h.write) (run_words E h.write) ≡ b → Ok (write_on E m s p)
    unfolding fill
    write-sound true b e g = subst Ok (sym (on-zeroing E m s p e))
        (extending-sound (ltb h.write.position E.block_words) (is_zero (next_index m h.place.block)) (leb chain_max s.chain) refl refl refl)
    write-sound false true e g = subst Ok (sym (on-filling E m s p e ∙ fill_on E m s p g)) (record { reads = tt; frees = tt; links = tt })
    write-sound false false e g = subst Ok (sym (on-filling E m s p e ∙ commit-on E m s p g)) (committing-sound (empty E m h) (ended E m h) refl refl)

module _ (E : Edition) (words : List ℕ) (s : Shared) (p : Point) (joined : s.joined < 2 ^ 32) (w : is_reading p.head.write.phase ≡ false) where
  pub planned-sound : Sound E (memory E words) s p.head (planned E words s p)
  planned-sound = go (step_refusal E words s p.head p.table) refl
    where
      go : (k : ℕ) → step_refusal E words s p.head p.table ≡ k → Sound E (memory E words) s p.head (planned E words s p)
      go zero e = subst (Sound E (memory E words) s p.head) (sym (goes_on E words s p e))
          (write-sound E words s p.head p.table (ready E words s p.head p.table (e, w)) joined p.text (is_zeroing p.head.write.phase)
          (ltb (next_word E p.head.write) (run_words E p.head.write)) refl refl)
      go (suc k) e = subst (Sound E (memory E words) s p.head) (sym (refused-on E words s p k e)) (record { reads = tt; frees = tt; links = tt })

-- ---- the store

-- word i from block b on is a word of this block or of a later one
pub word-from-put : (E : Edition) (words : List ℕ) (b i value : ℕ)
    → put E words (record { block = b; word = i; value = value }) ≡ put E words (word_from E b i value)
word-from-put E words b i value = rw (from_block E b i)

-- ---- the step's answer: what the plan says of each record, with map, table and text as they are left

pub carried-out :
    (E : Edition) (m : Memory) (n : Numbers) (taken reports : List ℕ) (plan : Plan) (p : Point) (h : Head)
    (released taken' table text : List ℕ) (length word : ℕ)
    → released ≡ freed plan.frees E taken p.head.write p.table
    → taken' ≡ set_all true released (plan.takes ∷ [])
    → record { table = table; size = length } ≡ read_in plan.reads E m n.blocks p.head.place plan.value (file_at p.head p.table)
    → text ≡ text_after plan.clears p.text → h ≡ standing p.head length plan.place plan.write
    → stepped_of n (record { step = plan.step; head = h; word = word; reports = plan.reports }) taken' reports table text
    ≡ answered (carried_out E m (shared_of n taken reports) p plan)
unfolding carried_out
carried-out E m n taken reports plan p h released taken' table text length word r k f t e = rw (e, t, k, r) (ap left_by f)
  where
    left_by : Mapped → Stepped
    left_by g =
        record {
          step = plan.step;
          shared =
              reported plan.reports (standing p.head g.size plan.place plan.write)
              (shared_of n (set_all true (freed plan.frees E taken p.head.write p.table) (plan.takes ∷ [])) reports);
          point = point_of (standing p.head g.size plan.place plan.write) g.table (text_after plan.clears p.text);
        }

-- ---- of either kind: a write's step hands nothing out, a read's stores nothing

pub write-leaves :
    (words : List ℕ) (s : Shared) (p : Point) (lent : List ℕ) (answer : Stepped) (image : List ℕ) (word : ℕ)
    → WriteTells words s p answer image word → StepTells words s p lent answer image lent word
write-leaves words s p lent answer image word t =
    record { leaves = record { answers = t.answers; stored = t.stored; handed = rw t.silent }; place = t.place }

pub read-leaves :
    (words : List ℕ) (n : Numbers) (taken reports : List ℕ) (p : Point) (lent : List ℕ) (left : LentStepped) (table text bytes : List ℕ)
    → Known n reports → ReadTells (λ s. stepping one words s p) n lent left table text bytes
    → StepTells words (shared_of n taken reports) p lent (stepped_of n left taken reports table text) words bytes left.word
unfolding after stored_at
read-leaves words n taken reports p lent left table text bytes known t =
    record {
      leaves = record { answers = t.answers taken reports known; stored = rw (t.unstored taken reports known); handed = t.handed taken reports known };
      place = t.place ∙ rw (t.unstored taken reports known);
    }

-- the same with a whole shared record
pub whole-step :
    (words : List ℕ) (s : Shared) (p : Point) (lent : List ℕ) (n : Numbers) (r : LentStepped) (taken table text image bytes : List ℕ) (t : Shared)
    → n ≡ numbers_of s → t ≡ reported r.reports r.head (with_taken s taken)
    → ((reports : List ℕ) → Known n reports → StepTells words (shared_of n s.taken reports) p lent (stepped_of n r taken reports table text) image bytes r.word)
    → StepLeaves words s p lent (record { step = r.step; shared = t; point = point_of r.head table text }) image bytes
whole-step words s p lent n r taken table text image bytes t e f h = rw f (rw e at (h s.reports (of-known s n e)).leaves)
