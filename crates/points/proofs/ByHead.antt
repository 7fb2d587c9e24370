-- Committing by the head: where no word is left to fill and the slot at the log place is empty, a step stores the entry, takes it in, frees what it replaces
-- and leaves the point idle. Assumes nothing.
use Prim.Native.Nat.{ℕ, ◌<◌}
use native.Mathlib.Omega.{arith}
use mathlib.Core.Path.{◌≡◌, refl, sym, ap, ◌∙◌}
use mathlib.Core.Bool.{true, false}
use mathlib.Core.List.{List}
use Rattle.std.specs.Prelude.{Some, None}
use Rattle.words.specs.Edition.{Edition, one}
use Rattle.words.specs.Memory.{memory, word_at, put, after}
use Rattle.words.specs.BlockMap.{set_all}
use Rattle.block_log.specs.declared.Place.{Place}
use Rattle.block_log.specs.declared.Shared.{Shared}
use Rattle.block_log.specs.Parts.{Mappable}
use Rattle.block_log.specs.Replay.{Mapped, apply}
use Rattle.block_log.proofs.Entry.{legal-mappable}
use Rattle.points.specs.declared.Write.{Write}
use Rattle.points.specs.declared.Head.{Head}
use Rattle.points.specs.declared.Point.{Point}
use Rattle.points.specs.declared.plan.Frees.TheVariants.{Replaced}
use Rattle.points.specs.Record.{is_zeroing, is_reading, run_blocks, run_words, no_write, no_text, head_of, standing, file_at, point_of}
use Rattle.points.specs.Record.{bad_text, past_end, inside}
use Rattle.points.specs.Plan.{replaced, carried_out}
use Rattle.points.specs.Stepping.{next_slot, entry_for, stepping}
use Rattle.points.specs.Lent.{EntryFits, InTable}
use Rattle.points.specs.Batch.{Filled, Enterable, Commits, committed_by, CommitsByHead}
use Rattle.points.proofs.Spans.{lies}
use Rattle.points.proofs.RecordFacts.{text-facts, inside-facts}
use Rattle.points.proofs.Commits.{entry-for-legal}
use Rattle.points.proofs.NextWord.{next-filling}
use Rattle.points.proofs.StepCases.{on-filling}
use Rattle.points.proofs.StepFacts.{commits, slot-empty}
use Rattle.points.proofs.CarriedOut.{after_commit, commit-leaves}
use Rattle.points.proofs.Ready.{Ready}
use Rattle.points.proofs.ReadyOn.{ready-step}

-- ---- the step

pub commit-turn :
    {E : Edition} {words : List ℕ} {s : Shared} {p : Point} (r : Ready E words s p) → let h = p.head in
    Filled E h.write → h.place.slot < E.block_words → word_at (memory E words) h.place.block h.place.slot ≡ 0
    → stepping E words s p
    ≡ (let f = apply E (file_at h p.table) (entry_for E h) in
    committed_by E s h (set_all false s.taken (replaced E h.write p.table)) (standing h f.size (next_slot h.place) no_write) f.table no_text)
unfolding after_commit
commit-turn {E} {words} {s} {p} r x slot empty =
    let m = memory E words in
    let w = p.head.write in
    let not-zeroing : is_zeroing w.phase ≡ false = rw x.filling in
    let last : w.position ≡ run_words E w = x.filled in
    ready-step r
    ∙ ap (carried_out E m s p)
    (on-filling E m s p not-zeroing ∙ commits E m s p w.position (run_words E w) (sym (next-filling E w x.filling)) refl (omega arith)
    ∙ slot-empty E m s p.head slot empty)
    ∙ commit-leaves E m s p slot

-- ---- what the code asks for

pub enterable :
    (h : Head) → bad_text h.write.size ≡ false → past_end one h.write.offset h.write.size ≡ false → h.number < 32
    → inside 1024 h.write.run (run_blocks one h.write) ≡ true → Enterable h
enterable h b e n i =
    let t = text-facts one h.write.offset h.write.size b e in
    let r = inside-facts 1024 h.write.run (run_blocks one h.write) i in
    record { text = (t.some-text, t.few-text, t.ends-inside); run_some = r.0; run_inside = r.1; number = n }

module _ (h : Head) (x : Enterable h) where
  pub entry-fits : EntryFits h
  entry-fits = (x.text, omega (arith, x.run_inside), x.number)

  pub in_table : InTable Replaced one h.write
  in_table = (lies one h.write.offset h.write.size x.text.0).in_file x.text.2

  pub entry-mappable : Mappable (entry_for one h)
  entry-mappable =
      legal-mappable 1024 (entry_for one h) (omega arith)
      (entry-for-legal one 1024 h x.text.0 x.text.1 x.text.2 x.run_some x.run_inside (omega arith) x.number)

-- ---- its answer

pub commits-by-head :
    (words words' taken taken' : List ℕ) (h g : Head) (table table' text text' : List ℕ) (e length : ℕ) (place : Place) (w : Write)
    → Commits (memory one words) h → e ≡ entry_for one h → taken' ≡ set_all false taken (replaced one h.write table)
    → record { table = table'; size = length } ≡ apply one (file_at h table) e → text' ≡ no_text
    → words' ≡ put one words (record { block = h.place.block; word = h.place.slot; value = e })
    → place ≡ next_slot h.place → w ≡ no_write → g ≡ head_of h.number length place w
    → CommitsByHead words taken h table text (Some g) words' taken' table' text'
unfolding after
commits-by-head words words' taken taken' h g table table' text text' e length place w x ee et ef ec es ep ew eg =
    record {
      committed = λ g' d s b r.
          let same : g' ≡ head_of h.number length place w = cc in
          let unread : is_reading h.write.phase ≡ false = rw x.ready.filling in
          commit-turn {p = point_of h table text} (record { unrefused = r; unread = unread }) x.ready x.slot x.empty
          ∙ rw (same, ew, ep, ec, et, b)
          (ap (λ (y : Mapped). committed_by one s h (set_all false taken (replaced one h.write table)) (standing h y.size (next_slot h.place) no_write)
          y.table no_text) (sym (rw ee at ef)));
      stored = λ g' d. es ∙ rw ee;
      stayed = λ d. cc;
    }

pub uncommitted :
    (words taken : List ℕ) (h : Head) (table text : List ℕ)
    → CommitsByHead words taken h table text None words taken table text
uncommitted words taken h table text = record { committed = λ g d. cc; stored = λ g d. cc; stayed = λ d. (refl, refl, refl, refl) }
