-- A point that from any moment of its read on alone takes steps ends it in at most 260. The rank is what is left: the words to copy and the last step; and,
-- where entries are ahead of it, all words and a last step once more. It is at most 260, falls with each step and is kept by every other call.
use mathlib.Core.Path.{◌≡◌, refl, sym, ap, ◌∙◌, subst}
use mathlib.Core.List.{List, [], ◌∷◌}
use mathlib.Core.Bool.{Bool, true, false, ◌||◌}
use Prim.Native.Nat.{ℕ, ◌+◌, ◌-◌, ◌/◌, ◌≤◌, ◌<◌}
use native.Mathlib.Omega.{arith}
use lib.Dec.{ltb}
use borrow.Author.Tests.{ltb-true, le-ltb}
use Rattle.words.specs.Edition.{Edition}
use Rattle.words.specs.Logic.{some_of, up_from}
use Rattle.words.specs.Memory.{memory, block_count}
use Rattle.block_log.specs.Entry.{covers}
use Rattle.block_log.specs.CatchUp as K
use Rattle.block_log.specs.CatchUp.{ahead}
use Rattle.points.specs.declared.Point as PP
use Rattle.points.specs.declared.Write.{Write}
use Rattle.points.specs.Record.{no_write, no_text, file_at, is_joined, is_reading, run_first, run_blocks, range_words}
use Rattle.points.specs.Plan.{Outcome}
use Rattle.points.specs.ReadSteps.{covered, lengthened, copy_word, begin_again, answer_bytes}
use Rattle.points.specs.Stepping.{stepping}
use Rattle.recovery.specs.World as W
use Rattle.recovery.specs.World.{step, world, events}
use Rattle.recovery.specs.Book.{Book}
use Rattle.recovery.specs.Claim.{lone_read_steps, LoneRead}
use Rattle.recovery.specs.History.{enough, open_world, step_answers, answers_read, calls_before, at_cut}
use Rattle.words.proofs.Tests.{no_true}
use Rattle.words.proofs.Grid.{count-view}
use Rattle.points.proofs.Phases.{reading-busy}
use Rattle.points.proofs.ReadCases.{read_goes, each_read, disturbed, caught}
use Rattle.recovery.proofs.Claim.{opens-enough, same_start, bytes_before}
use Rattle.recovery.proofs.Model.LogPlace.{LogPlace, place_at, place_of}
use Rattle.recovery.proofs.Model.State.{PointState}
use Rattle.recovery.proofs.Model.Walk.{stop}
use Rattle.block_log.proofs.Cover.{View, apply_all}
use Rattle.recovery.proofs.Calls.Mapping.{Tied}
use Rattle.recovery.proofs.Calls.CatchUp.{walk-ahead}
use Rattle.recovery.proofs.Calls.StepTied.{unstored}
use Rattle.recovery.proofs.Calls.NotRefused.{step-on, not-broken}
use Rattle.recovery.proofs.Calls.Begin.{ahead-is, caught-up}
use Rattle.recovery.proofs.Calls.Read.{read-inv, caught-size}
use Rattle.recovery.proofs.Demand3.{after_tied}
use Rattle.recovery.proofs.Lone.Alone.{Good, finished, lower, lone}

or-none : (a b : Bool) → a ≡ false → b ≡ false → a || b ≡ false
or-none a b e f = rw (e, f)

-- ---- the rank

-- what may come after the next last step, with these entries ahead: all words and another last step, or nothing
abbrev again_for : ℕ → List ℕ → ℕ
again_for words [] = 0
again_for words (e ∷ es) = words + 1

unfoldable rank : Edition → List ℕ → PP.Point → ℕ
rank E I p =
    let w = p.head.write in
    (range_words w - w.position) + 1 + again_for (range_words w) (ahead E (memory E I) (block_count E I) p.head.place).entries

rank-some : (E : Edition) (I : List ℕ) (p : PP.Point) → 1 ≤ rank E I p
unfolding rank
rank-some E I p = omega arith

again-most : (words : ℕ) (es : List ℕ) → again_for words es ≤ words + 1
again-most words [] = omega arith
again-most words (e ∷ es) = omega arith

-- a range of at most 1,024 bytes touches at most 129 words
words-most : (o n : ℕ) → n ≤ 1024 → (o + n - 1) / 8 - o / 8 + 1 ≤ 129
words-most o n l = omega arith

module _ {E : Edition} {L : List ℕ} (w : W.World) (bk : Book) (h : Tied E L w bk) (n : ℕ) (j : is_joined w.shared n ≡ true)
    (r : is_reading (w.newest n).head.write.phase ≡ true) where
  abbrev p : PP.Point
  p = w.newest n

  abbrev x : Write
  x = p.head.write

  rank_most : rank E w.words p ≤ lone_read_steps
  unfolding rank
  rank_most =
      let a = again-most (range_words x) (ahead E (memory E w.words) (block_count E w.words) p.head.place).entries in
      omega (arith, words-most x.offset x.size (read-inv w bk h n j r).few)

  blocks-are : block_count E w.words ≡ w.shared.blocks
  blocks-are = count-view E w.words w.shared.blocks h.inv.core.image.size

  -- the read ends, or goes on with a lower rank
  abbrev Goes : Outcome → Type 0
  Goes = Good E is_reading step_answers (rank E) w n

  copy-good : ltb x.position (range_words x) ≡ true → Goes (copy_word E (memory E w.words) w.shared p)
  unfolding copy_word rank
  copy-good e = lower refl refl (rw (unstored E w.words) (let l = ltb-true x.position (range_words x) e in omega arith))

  -- with nothing ahead, nothing disturbs
  abbrev found : List ℕ
  found = (h.inv.points n j).ahead

  some-none : (vs : List ℕ) → some_of (λ v. some_of (covers v) []) vs ≡ false
  some-none [] = refl
  some-none (v ∷ vs) = some-none vs

  walk_is : (ahead E (memory E w.words) w.shared.blocks p.head.place).entries ≡ found
  walk_is = ap (λ (y : K.Walk). y.entries) (ahead-is w bk h n j)

  undisturbed : found ≡ [] → disturbed E (memory E w.words) w.shared p ≡ false
  undisturbed e = or-none _ _ uncovered no_longer
    where
      uncovered : covered E x (ahead E (memory E w.words) w.shared.blocks p.head.place).entries ≡ false
      uncovered = unfold covered in (rw (walk_is, e) (some-none (up_from (run_first E x) (run_blocks E x))))

      same : (caught E (memory E w.words) w.shared p).head.length ≡ p.head.length
      same = caught-size w bk h n j r ∙ ap (λ (y : View). y.size) (sym (h.inv.points n j).place.catches ∙ ap (λ (es : List ℕ). apply_all E es
          (file_at p.head p.table)) e)

      no_longer : lengthened x p.head.length (caught E (memory E w.words) w.shared p).head.length ≡ false
      no_longer = rw (same, le-ltb p.head.length p.head.length (omega arith))

  -- caught up, it has nothing ahead
  abbrev there : PP.Point
  there = caught E (memory E w.words) w.shared p

  there-at : place_of there.head.place ≡ place_at h.inv.tail
  there-at = ap (λ (y : PointState). y.place) (caught-up w bk h n j no_write no_text)

  there-none : (ahead E (memory E w.words) w.shared.blocks there.head.place).entries ≡ []
  there-none =
      let c = h.inv.core in
      let e = there-at in
      ap (λ (y : K.Walk). y.entries)
      (walk-ahead c.image c.superblock.is_super c.log.tail there.head.place
      (stop (ap (λ (l : LogPlace). l.blk) e) (ap (λ (l : LogPlace). l.slot) e)))

  again-good : ltb x.position (range_words x) ≡ false → disturbed E (memory E w.words) w.shared p ≡ true
      → Goes (begin_again w.shared p there)
  unfolding begin_again rank
  again-good e d = lower refl refl (rw (unstored E w.words, blocks-are, there-none, walk_is) (go found refl))
    where
      go : (es : List ℕ) → found ≡ es → (range_words x - 0) + 1 + 0 < (range_words x - x.position) + 1 + again_for (range_words x) found
      go [] f = absurd (no_true d (undisturbed f))
      go (y ∷ es) f = rw f (omega arith)

  step-good : Goes (stepping E w.words w.shared p)
  unfolding answer_bytes
  step-good = subst Goes (sym (read_goes E w.words w.shared p r (step-on w bk h n j (reading-busy x.phase r))))
      (each_read E (memory E w.words) w.shared p Goes (record {
        copies = copy-good;
        stops = λ e. absurd (no_true e (not-broken w bk h n j));
        begins-again = again-good;
        answers = λ e f. finished refl;
      }))

pub lone-read : (E : Edition) → LoneRead E
unfolding LoneRead
lone-read E h p j b calls bytes steps enough_steps = go (at_cut h) (ap (λ (w : W.World). world E w (calls_before h)) (same_start h)) j b
  where
    start : W.World
    start = world E (open_world E h.words enough) (calls_before h)

    go : (w : W.World) → w ≡ start → is_joined w.shared p ≡ true → is_reading (w.newest p).head.write.phase ≡ true
        → some_of answers_read (events E w calls) ≡ true
    go w e j b =
        let t = after_tied E h.words (opens-enough h) (calls_before h) (bytes_before h) in
        let most = rank_most start _ t p (rw e at j) (rw e at b) in
        rw e (lone E is_reading step_answers (rank E) reading-busy (rank-some E) (λ L. step-good {L = L}) p calls bytes steps start _ _ t (rw e at j)
        (rw e at b) (omega arith))
