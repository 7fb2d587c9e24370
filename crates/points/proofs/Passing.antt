-- Moving on by one entry: where one legal entry is ahead that maps none of the write's blocks, a step takes it in, no word is filled again, and the log
-- place goes on by one slot. Assumes nothing.
use Prim.Native.Nat.{ℕ, suc, ◌+◌, ◌-◌, ◌≤◌, ◌<◌, max}
use native.Mathlib.Numerals.{add-one}
use native.Mathlib.Omega.{arith}
use mathlib.Core.Path.{◌≡◌, refl, sym, ap, ◌∙◌}
use mathlib.Core.Logic.{◌⊎◌, inl, inr}
use mathlib.Core.Bool.{Bool, true, false, ◌&&◌}
use mathlib.Core.List.{List, [], ◌∷◌}
use lib.ListN.{length}
use lib.Dec.{leb}
use borrow.Author.Tests.{lt-leb, le-ltb}
use Rattle.std.specs.Prelude.{Some, None}
use Rattle.words.specs.Edition.{Edition, one}
use Rattle.words.specs.Logic.{any}
use Rattle.words.specs.Memory.{Memory, memory, block_at}
use Rattle.words.proofs.Logic.{up_to_zero-end, up_to_zero-next}
use Rattle.block_log.specs.declared.Place.{Place}
use Rattle.block_log.specs.declared.Shared.{Shared}
use Rattle.block_log.specs.Entry.{entry_v, entry_b, entry_n, entry_end, legal, covers}
use Rattle.block_log.specs.Opening.{bad_entry}
use Rattle.block_log.specs.Replay.{Mapped, map_run, apply, replay_on}
use Rattle.block_log.specs.CatchUp.{ended, ahead, broken}
use Rattle.block_log.proofs.Walk.{here, walk-stop}
use Rattle.points.specs.declared.Write.{Write}
use Rattle.points.specs.declared.Head.{Head}
use Rattle.points.specs.declared.Point.{Point}
use Rattle.points.specs.Record.{is_zeroing, is_reading, run_first, run_blocks, run_words, first_edge, last_edge, file_at, point_of, caught_up}
use Rattle.points.specs.Plan.{carried_out}
use Rattle.points.specs.Stepping.{refill, refill_after, stepping}
use Rattle.points.specs.Batch.{Alone, Aside, Passes, passing, passed_by, MovesByOne}
use Rattle.points.proofs.NextWord.{next-filling}
use Rattle.points.proofs.StepCases.{on-filling}
use Rattle.points.proofs.StepFacts.{commits, slot-taken}
use Rattle.points.proofs.CarriedOut.{move-leaves}
use Rattle.points.proofs.Ready.{Ready}
use Rattle.points.proofs.ReadyOn.{ready-step}

-- ---- what is ahead

module _ (E : Edition) (m : Memory) (blocks : ℕ) (p : Place) (e : ℕ) (a : Alone E m p e) where
  one-here : here m p.block p.slot ≡ e ∷ []
  one-here =
      up_to_zero-next (block_at m p.block) p.slot (λ z. a.some (a.word ∙ z))
      ∙ rw (← a.word, add-one, up_to_zero-end (block_at m p.block) (suc p.slot) a.after)

  pub ahead-one : ahead E m blocks p ≡ ended (e ∷ []) p.block (suc p.slot) true
  unfolding ahead
  ahead-one =
      let far : p.slot + length (here m p.block p.slot) ≡ suc p.slot = rw one-here (omega arith) in
      walk-stop E m blocks p.block p.slot blocks (omega (arith, a.slot)) ∙ rw (far, one-here)

  pub one-sound : legal E blocks e ≡ true → broken E blocks (ahead E m blocks p) ≡ false
  unfolding broken bad_entry any
  one-sound l = rw (ahead-one, l)

-- ---- what is filled again

and_no : (a : Bool) → a && false ≡ false
and_no true = refl
and_no false = refl

-- an entry aside covers neither block of the write's run that matters
module _ (E : Edition) (blocks : ℕ) (w : Write) (e : ℕ) (a : Aside E blocks w e) where
  uncovered : (x : ℕ) → run_first E w ≤ x → x < run_first E w + run_blocks E w → covers x e ≡ false
  uncovered x lo hi = go a.apart
    where
      go : (entry_v e + entry_n e ≤ run_first E w) ⊎ (run_first E w + run_blocks E w ≤ entry_v e) → covers x e ≡ false
      go (inl l) = rw (le-ltb x (entry_v e + entry_n e) (omega arith)) (and_no (leb (entry_v e) x))
      go (inr l) = rw (lt-leb (entry_v e) x (omega arith))

  pub nothing-again : refill_after E (e ∷ []) w ≡ refill false false E w
  unfolding refill_after
  nothing-again =
      rw (
        uncovered (run_first E w) (omega arith) (omega arith),
        uncovered (run_first E w + run_blocks E w - 1) (omega arith) (omega arith),
        and_no (first_edge E w),
        and_no (last_edge E w),
      )

-- ---- the step

pub pass-turn :
    {E : Edition} {words : List ℕ} {s : Shared} {p : Point} (r : Ready E words s p) (e : ℕ) → Passes E (memory E words) s.blocks p.head e
    → stepping E words s p
    ≡ (let f = apply E (file_at p.head p.table) e in passed_by s (passing E p.head f.size) f.table p.text)
unfolding caught_up replay_on
pass-turn {E} {words} {s} {p} r e x =
    let m = memory E words in
    let h = p.head in
    let w = h.write in
    let not-zeroing : is_zeroing w.phase ≡ false = rw x.ready.filling in
    let last : w.position ≡ run_words E w = x.ready.filled in
    let sound = one-sound E m s.blocks h.place e x.alone x.aside.legal in
    ready-step r
    ∙ ap (carried_out E m s p)
    (on-filling E m s p not-zeroing
    ∙ commits E m s p w.position (run_words E w) (sym (next-filling E w x.ready.filling)) refl (omega arith)
    ∙ slot-taken E m s h (omega (arith, x.alone.slot)) (λ z. x.alone.some (x.alone.word ∙ z)))
    ∙ move-leaves E m s p sound
    ∙ rw (ahead-one E m s.blocks h.place e x.alone, nothing-again E s.blocks w e x.aside)

-- ---- the code's answer

pub moves-by-one :
    (words : List ℕ) (blocks : ℕ) (h g : Head) (table left : List ℕ) (e length : ℕ) → Passes one (memory one words) blocks h e
    → record { table = left; size = length } ≡ apply one (file_at h table) e → g ≡ passing one h length
    → MovesByOne words blocks h table (Some g) left
moves-by-one words blocks h g table left e length x f k =
    record {
      moved = λ g' d s text b r.
          let same : g' ≡ passing one h length = cc in
          let unread : is_reading h.write.phase ≡ false = rw x.ready.filling in
          pass-turn {p = point_of h table text} (record { unrefused = r; unread = unread }) e (rw b x)
          ∙ ap (λ (y : Mapped). passed_by s (passing one h y.size) y.table text) (sym f)
          ∙ rw same;
      stayed = λ d. cc;
    }

pub stays : (words : List ℕ) (blocks : ℕ) (h : Head) (table : List ℕ) → MovesByOne words blocks h table None table
stays words blocks h table = record { moved = λ g d. cc; stayed = λ d. refl }

-- an entry taken in, by its fields
pub taken_in :
    (table left : List ℕ) (length size e v b n : ℕ) → left ≡ map_run table v b n → v ≡ entry_v e → b ≡ entry_b e → n ≡ entry_n e
    → size ≡ max length (entry_end one e) → record { table = left; size = size } ≡ apply one (record { table = table; size = length }) e
unfolding apply
taken_in table left length size e v b n el ev eb en es = rw (es, el, ev, eb, en)
