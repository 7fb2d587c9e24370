-- What a step of one point leaves of the walks ahead of all: each is as it was, or one entry longer by a commit, or ends in a new log block by a link.
use mathlib.Core.Path.{◌≡◌, refl, sym, ◌∙◌}
use mathlib.Core.List.{List, [], ◌∷◌, ◌++◌}
use mathlib.Core.Bool.{true, false}
use mathlib.Core.Option.{none}
use Prim.Native.Nat.{ℕ, suc, ◌≤◌, ◌<◌}
use native.Mathlib.Omega.{arith}
use lib.ListN.{length-append}
use Rattle.words.specs.Edition.{Edition, chain_max}
use Rattle.words.specs.Memory as M
use Rattle.words.specs.Memory.{Memory, memory, after}
use Rattle.words.proofs.Grid.{word_at, store, word-view}
use Rattle.block_log.specs.declared.Place.{Place}
use Rattle.block_log.specs.CatchUp.{Walk, ahead}
use Rattle.block_log.proofs.Cover as C
use Rattle.points.specs.declared.Point as PP
use Rattle.points.specs.Record.{is_joined, is_zeroing, is_writing, run_words}
use Rattle.points.specs.Fill.{next_word}
use Rattle.points.specs.Plan.{Outcome}
use Rattle.points.specs.Stepping.{entering, entry_for}
use Rattle.points.proofs.CarriedOut.{after_commit, after_link}
use Rattle.points.proofs.Phases.{writing-busy}
use Rattle.recovery.specs.World.{World}
use Rattle.recovery.specs.Book.{Book}
use Rattle.recovery.proofs.Model.Use.{Use, Foreign}
use Rattle.recovery.proofs.Model.LogPlace.{LogEnd, end_behind, end_in}
use Rattle.recovery.proofs.Model.Walk.{LogWalk, stop, walk_end, walk-empty}
use Rattle.recovery.proofs.Model.State.{WriteState, span, first_block, used}
use Rattle.recovery.proofs.Model.Invariant.{PointInv, WriteInv, the-write, Core}
use Rattle.recovery.proofs.Model.Frame.{quiet-core, quiet_walk, quiet-store}
use Rattle.recovery.proofs.Outcomes.CommitFile.{commit-core, commit-walks}
use Rattle.recovery.proofs.Outcomes.Link.{link-core, link-walks}
use Rattle.recovery.proofs.Calls.CatchUp.{arrived, walk-ahead}
use Rattle.recovery.proofs.Calls.Mapping.{Tied, world_of, point_of, write_of, phase_in, zeroing-phase}
use Rattle.recovery.proofs.Calls.Begin.{ahead-is}
use Rattle.recovery.proofs.Calls.Fill.{none_left}
use Rattle.recovery.proofs.Calls.Commit.{entry-is}
use Rattle.recovery.proofs.Calls.Extend.{link-room}
use Rattle.recovery.proofs.Calls.StepTied.{is_busy, stored_is, unstored}
use Rattle.recovery.proofs.Row.Rank.{Grown, Linked}

-- the walk ahead of a point
abbrev pub sight : Edition → World → ℕ → Walk
sight E w k = ahead E (memory E w.words) w.shared.blocks (w.newest k).head.place

-- the walk from a place, as an outcome leaves the image
abbrev pub seen_after : Edition → World → Outcome → Place → Walk
seen_after E w r l = ahead E (memory E (after E w.words r.store)) r.shared.blocks l

-- every joined point sees what it saw; an entry more; a new log block
abbrev pub Still : Edition → World → Outcome → Type 0
Still E w r = (k : ℕ) → is_joined w.shared k ≡ true → seen_after E w r (w.newest k).head.place ≡ sight E w k

abbrev pub AllGrown : Edition → World → Outcome → Type 0
AllGrown E w r = (k : ℕ) → is_joined w.shared k ≡ true → Grown E (sight E w k) (seen_after E w r (w.newest k).head.place)

abbrev pub AllLinked : Edition → World → Outcome → Type 0
AllLinked E w r = (k : ℕ) → is_joined w.shared k ≡ true → Linked E (sight E w k) (seen_after E w r (w.newest k).head.place)

-- from a place in an image with the core of the invariant
pub from-core : {E : Edition} {L I : List ℕ} {B : ℕ} {own : ℕ → Use} {t : LogEnd} {cur : C.View} {F : List ℕ} {k : ℕ} {es : List ℕ}
    → Core E L I B own t cur F → (l : Place) → LogWalk E I own B t l.block l.slot k es → ahead E (memory E I) B l ≡ arrived t es k
from-core c l = walk-ahead c.image c.superblock.is_super c.log.tail l

module _ {E : Edition} {L : List ℕ} (w : World) (bk : Book) (h : Tied E L w bk) (n : ℕ) (j : is_joined w.shared n ≡ true)
    (busy_phase : is_writing (w.newest n).head.write.phase ≡ true) where
  abbrev I : List ℕ
  I = w.words

  abbrev B : ℕ
  B = w.shared.blocks

  abbrev T : LogEnd
  T = h.inv.tail

  abbrev p : PP.Point
  p = w.newest n

  abbrev m : Memory
  m = memory E I

  abbrev v : WriteState
  v = write_of (phase_in p.head.write.phase) p.head.write p.text

  abbrev pi : PointInv E I B h.inv.own T h.inv.cur n (bk.note n) (point_of p)
  pi = h.inv.points n j

  pub wi : WriteInv E I h.inv.own h.inv.cur n pi.ahead (bk.note n) v
  wi = the-write (world_of w) bk h.inv n v j (is_busy w bk h n j busy_phase)

  -- a word of the image, as the definitions read it
  word-is : (b i : ℕ) → i < E.block_words → M.word_at m b i ≡ word_at E I b i
  word-is b i l = word-view E I B h.inv.core.image.size b i l

  -- nothing is stored
  pub unstored-still : (r : Outcome) → r.store ≡ none → r.shared.blocks ≡ B → Still E w r
  unstored-still r e f k jk = rw (e, f, unstored E I)

  -- a store into a block that n holds
  pub held-still : (r : Outcome) (b i x : ℕ) → i < E.block_words → (Foreign n (h.inv.own b) → ⊥) → after E I r.store ≡ store E I b i x
      → r.shared.blocks ≡ B → Still E w r
  held-still r b i x hi mine e f k jk =
      let q = quiet-store E I B h.inv.own n b i x h.inv.core.image.inside hi mine in
      rw (e, f) (from-core (quiet-core q h.inv.core) (w.newest k).head.place (quiet_walk q (h.inv.points k jk).place.walk))
      ∙ sym (ahead-is w bk h k jk)

  -- ---- the commit
  module _ (filled : run_words E p.head.write ≤ next_word E p.head.write) (nz : is_zeroing p.head.write.phase ≡ false)
      (short : p.head.place.slot < E.block_words) (empty : word_at E I p.head.place.block p.head.place.slot ≡ 0) where
    abbrev e : ℕ
    e = C.entry E (first_block E v) v.run (span E v) (used E v) n

    -- the entry is stored at the tail
    stored : after E I (after_commit E m w.shared p).store ≡ store E I T.blk T.slot e
    unfolding after_commit
    stored = let s = walk-empty pi.place.walk short empty in
        stored_is E I p.head.place.block p.head.place.slot (entry_for E p.head) ∙ rw (entry-is w bk h n j busy_phase filled nz, s.block, s.slot)

    seen : (k : ℕ) (jk : is_joined w.shared k ≡ true) → seen_after E w (after_commit E m w.shared p) (w.newest k).head.place
        ≡ arrived (end_behind T) ((h.inv.points k jk).ahead ++ (e ∷ [])) (h.inv.points k jk).place.rest
    seen k jk =
        let s = walk-empty pi.place.walk short empty in
        let x : WriteInv E I h.inv.own h.inv.cur n [] (bk.note n) v = rw s.none at wi in
        let l : T.slot < E.block_words = omega (arith, s.slot) in
        let d = none_left E p.head.write p.text (h.texts n j (writing-busy p.head.write.phase busy_phase)) busy_phase filled in
        let b : (after_commit E m w.shared p).shared.blocks ≡ B = unfold after_commit in refl in
        rw (stored, b) (from-core (commit-core h.inv.core pi.number v x l d) (w.newest k).head.place
        (commit-walks h.inv.core pi.number v x l d (h.inv.points k jk).place.walk))

    pub commit-grown : AllGrown E w (after_commit E m w.shared p)
    commit-grown k jk = let s = walk-empty pi.place.walk short empty in rw (seen k jk, ahead-is w bk h k jk) (record {
      room = omega (arith, s.slot);
      block = refl;
      slot = refl;
      count = length-append (h.inv.points k jk).ahead (e ∷ []) ∙ omega arith;
    })

  -- ---- the link
  module _ (z : is_zeroing p.head.write.phase ≡ true) (done : E.block_words ≤ p.head.write.position)
      (full : p.head.place.slot ≡ E.block_words) (last : word_at E I p.head.place.block 0 ≡ 0) where
    abbrev y : ℕ
    y = p.head.write.zeroing

    free-from : suc T.links < chain_max
    free-from = omega (arith, link-room w bk h n j busy_phase z full (word-is p.head.place.block 0 (omega arith) ∙ last), h.inv.length)

    stands : (p.head.place.block ≡ T.blk) × (T.slot ≡ E.block_words)
    stands = let s = walk_end pi.place.walk full last in (s.block, sym s.slot ∙ full)

    zeroes : (i : ℕ) → i < E.block_words → word_at E I y i ≡ 0
    zeroes i l = (wi.zero (zeroing-phase p.head.write.phase z)).zeroes i (omega arith) l

    -- the next index is stored in the tail's block
    linked : after E I (after_link E m w.shared p).store ≡ store E I T.blk 0 y
    unfolding after_link
    linked = stored_is E I p.head.place.block 0 y ∙ rw stands.0

    blocks : (after_link E m w.shared p).shared.blocks ≡ B
    unfolding after_link
    blocks = refl

    seen-from : (l : Place) {i : ℕ} {es : List ℕ} → LogWalk E I h.inv.own B T l.block l.slot i es
        → seen_after E w (after_link E m w.shared p) l ≡ arrived (end_in y T) es (suc i)
    seen-from l r =
        let o = (wi.zero (zeroing-phase p.head.write.phase z)).held in
        rw (linked, blocks) (from-core (link-core h.inv.core o zeroes stands.1 free-from) l
        (link-walks h.inv.core o zeroes stands.1 free-from r))

    pub link-seen : seen_after E w (after_link E m w.shared p) (entering y) ≡ arrived (end_in y T) [] 0
    link-seen =
        let o = (wi.zero (zeroing-phase p.head.write.phase z)).held in
        rw (linked, blocks) (from-core (link-core h.inv.core o zeroes stands.1 free-from) (entering y) (stop refl refl))

    pub link-linked : AllLinked E w (after_link E m w.shared p)
    link-linked k jk = rw (seen-from (w.newest k).head.place (h.inv.points k jk).place.walk, ahead-is w bk h k jk)
        (record { full = stands.1; slot = refl; count = refl })
