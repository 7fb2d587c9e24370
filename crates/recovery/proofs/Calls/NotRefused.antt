-- A joined point's call is refused by none of 10, 11, 14 and 18: the shared record fits the image, its own record fits, it is joined, and catching up
-- is not broken. All of it is read off the invariant, which therefore has the clauses of a record that fits.
use mathlib.Core.Path.{◌≡◌, refl, sym, ap, ◌∙◌}
use mathlib.Core.Logic.{◌≢◌}
use mathlib.Core.List.{List, [], ◌∷◌, ◌++◌}
use mathlib.Core.Bool.{Bool, true, false, not}
use Prim.Native.Nat.{ℕ, suc, ◌+◌, ◌≤◌, ◌<◌}
use native.Mathlib.Omega.{arith}
use native.Mathlib.Decide.{dec_le}
use lib.ListN.{length, get_or}
use lib.Seq.{length-take-le}
use lib.Dec.{leb, ltb}
use borrow.Author.Tests.{lt-ltb, le-ltb, le-leb, eq-eqb}
use Rattle.words.proofs.Sizes.{mul-le}
use Rattle.words.specs.Edition.{Edition, file_end}
use Rattle.words.specs.Logic.{Reason, first, ◌when◌, all_of, between}
use Rattle.words.specs.Memory.{memory}
use Rattle.block_log.specs.CatchUp.{broken, ahead}
use Rattle.block_log.specs.Opening.{bad_entry}
use Rattle.points.specs.declared.Point as PP
use Rattle.points.specs.Record.{is_joined, is_idle, is_zeroing, is_reading, is_writing, run_blocks, run_words, range_words}
use Rattle.points.specs.Record.{fits, head_fits, all_below, work_fits, write_fits, range_fits, zeroing_fits, place_fits, inside, bad_shared, record_reasons}
use Rattle.points.specs.Stepping.{step_refusal}
use Rattle.recovery.specs.World as W
use Rattle.recovery.specs.Book.{Book}
use Rattle.words.proofs.Logic.{all-every, none_any, and_both}
use Rattle.words.proofs.Choice.{choose-true, choose-false}
use Rattle.words.proofs.Tests.{not-of, not-no}
use Rattle.points.proofs.RecordFacts.{shared-fits}
use Rattle.points.proofs.Phases.{writing-busy, is-writing}
use Rattle.recovery.proofs.Model.Walk.{walk-in, walk-slot}
use Rattle.recovery.proofs.Model.Use.{chain, super, in_image_lem}
use Rattle.recovery.proofs.Model.State.{span, WriteState, busy}
use Rattle.recovery.proofs.Model.Invariant.{PointInv, WriteInv, the-write}
use Rattle.recovery.proofs.Model.Keep.{run_in}
use Rattle.recovery.proofs.Model.Span.{spans}
use Rattle.recovery.proofs.Opening.Legal.{walk-legal}
use Rattle.recovery.proofs.Calls.Begin.{ahead-is}
use Rattle.recovery.proofs.Calls.Mapping.{Tied, world_of, point_of, write_of, phase_in, zeroing-phase, other-phase, reading-work}
use Rattle.recovery.specs.Standing.{stands_in}
use Rattle.recovery.proofs.Calls.StepTied.{is_busy, sp}

below_all : (B : ℕ) (l : List ℕ) → ((i : ℕ) → get_or l i 0 < B) → all_of (λ b. ltb b B) l ≡ true
below_all B [] h = refl
below_all B (x ∷ xs) h = and_both (ltb x B) (all_of (λ b. ltb b B) xs) (lt-ltb x B (h 0)) (below_all B xs (λ i. h (suc i)))

is-between : (a x b : ℕ) → a ≤ x → x ≤ b → between a x b ≡ true
is-between a x b h k = and_both (leb a x) (leb x b) (le-leb a x h) (le-leb x b k)

is-inside : (B b n : ℕ) → 1 ≤ b → b + n ≤ B → inside B b n ≡ true
is-inside B b n h k = and_both (leb 1 b) (leb (b + n) B) (le-leb 1 b h) (le-leb (b + n) B k)

module _ {E : Edition} {L : List ℕ} (w : W.World) (bk : Book) (h : Tied E L w bk) where
  pub shared-ok : bad_shared E w.words w.shared ≡ false
  unfolding all_below
  shared-ok = shared-fits E w.words w.shared (record {
    some-blocks = h.inv.core.image.least;
    few-blocks = h.inv.core.image.most;
    whole = sym h.inv.core.image.size;
    some_chain = omega (arith, h.inv.length);
    few-chain = omega (arith, h.inv.length, h.inv.core.log.few);
    reported = reports-below;
  })
    where
      stands : (n : ℕ) (b : Bool) → is_joined w.shared n ≡ b → stands_in b (w.newest n) < w.shared.blocks
      stands n true j =
          let o = walk-in h.inv.core.log.tail (h.inv.points n j).place.walk in
          in_image_lem w.shared.blocks h.inv.own h.inv.core.image.inside (w.newest n).head.place.block (rw o tt)
      stands n false j = omega (arith, h.inv.core.image.least)

      reports-below : all_below w.shared.blocks w.shared.reports ≡ true
      reports-below = below_all w.shared.blocks w.shared.reports (λ n. rw (h.reports n) (stands n (is_joined w.shared n) refl))

  from-1 : (b : ℕ) → h.inv.own b ≢ super → 1 ≤ b
  from-1 b x = go (dec_le 1 b)
    where
      go : Dec (1 ≤ b) → 1 ≤ b
      go (yes l) = l
      go (no l) = let e : b ≡ 0 = omega arith in absurd (x (ap h.inv.own e ∙ h.inv.core.superblock.is_super))

  module _ (n : ℕ) (j : is_joined w.shared n ≡ true) where
    abbrev p : PP.Point
    p = w.newest n

    abbrev B : ℕ
    B = w.shared.blocks

    abbrev pi : PointInv E w.words B h.inv.own h.inv.tail h.inv.cur n (bk.note n) (point_of p)
    pi = h.inv.points n j

    blk-chain : h.inv.own p.head.place.block ≡ chain
    blk-chain = walk-in h.inv.core.log.tail pi.place.walk

    place-fits : place_fits E B p.head.place ≡ true
    unfolding place_fits
    place-fits =
        let o = blk-chain in
        let l = in_image_lem B h.inv.own h.inv.core.image.inside p.head.place.block (rw o tt) in
        let s = walk-slot h.inv.core.log.tail pi.place.walk in
        all-every _ (
          is-inside B p.head.place.block 1 (from-1 p.head.place.block (λ x. let z : ◌≡◌ {A = ℕ} 0 1 = cc in omega arith)) (omega arith),
          (
            is-between 2 p.head.place.slot E.block_words s.0 s.1,
            tt,
          ),
        )

    -- its write, if it has one
    module _ (busy_phase : is_writing p.head.write.phase ≡ true) where
      abbrev v : WriteState
      v = write_of (phase_in p.head.write.phase) p.head.write p.text

      busy_work : ((world_of w).points n).work ≡ busy v
      busy_work = is_busy w bk h n j busy_phase

      wi : WriteInv E w.words h.inv.own h.inv.cur n pi.ahead (bk.note n) v
      wi = the-write (world_of w) bk h.inv n v j busy_work

      sized : length v.text ≡ p.head.write.size
      sized = length-take-le p.head.write.size p.text (h.texts n j (writing-busy p.head.write.phase busy_phase))

      run-from : 1 ≤ p.head.write.run
      run-from =
          let g = spans E v wi.text.some in
          let e : p.head.write.run + 0 ≡ p.head.write.run = omega arith in
          let o = rw e at (wi.owned 0 (omega (arith, g.some))) in
          from-1 p.head.write.run (λ x. let z : ◌≡◌ {A = ℕ} 0 1 = cc in omega arith)

      zero-fits : is_zeroing p.head.write.phase ≡ true → zeroing_fits E B p.head.place p.head.write ≡ true
      unfolding zeroing_fits
      zero-fits e =
          let ph = zeroing-phase p.head.write.phase e in
          let o = (wi.zero ph).held in
          let l = in_image_lem B h.inv.own h.inv.core.image.inside p.head.write.zeroing (rw o tt) in
          let a = (rw busy_work at pi.at_end) ph in
          all-every _ (
            is-inside B p.head.write.zeroing 1 (from-1 p.head.write.zeroing (λ x. let z : ◌≡◌ {A = ℕ} 0 1 = cc (o, x) in omega arith))
                (omega arith),
            (
              le-leb p.head.write.position E.block_words (wi.zero ph).place,
              (eq-eqb p.head.place.slot E.block_words a.0, tt),
            ),
          )

      pub pos-most : is_zeroing p.head.write.phase ≡ false → p.head.write.position ≤ run_words E p.head.write
      pos-most e = omega (
        arith,
        wi.place (other-phase p.head.write.phase e),
        mul-le E (span E v) (run_blocks E p.head.write) (omega (arith, sp w bk h n j busy_phase)),
      )

      pos-fits : (b : Bool) → is_zeroing p.head.write.phase ≡ b
          → (elim (is_zeroing p.head.write.phase)
          [ true ↦ zeroing_fits E B p.head.place p.head.write | false ↦ leb p.head.write.position (run_words E p.head.write) ]) ≡ true
      pos-fits true e = choose-true (is_zeroing p.head.write.phase) (zeroing_fits E B p.head.place p.head.write)
          (leb p.head.write.position (run_words E p.head.write)) e ∙ zero-fits e
      pos-fits false e = choose-false (is_zeroing p.head.write.phase) (zeroing_fits E B p.head.place p.head.write) _ e
          ∙ le-leb p.head.write.position (run_words E p.head.write) (pos-most e)

      write-fits : write_fits E B p.head.place p.head.write ≡ true
      unfolding write_fits
      write-fits = all-every _ (
        not-no _ (not-of _ (is-between 1 p.head.write.size 1024 (omega (arith, wi.text.some, sized)) (omega (arith, wi.text.few, sized)))),
        (
          not-no _ (le-ltb (file_end E) (p.head.write.offset + p.head.write.size) (omega (arith, wi.text.ends, sized))),
          (
            is-inside B p.head.write.run (run_blocks E p.head.write) run-from
                (omega (arith, run_in (world_of w) bk h.inv n v j busy_work, sp w bk h n j busy_phase)),
            (pos-fits (is_zeroing p.head.write.phase) refl, tt),
          ),
        ),
      )

    -- its read, if it has one
    range-fits : is_reading p.head.write.phase ≡ true → range_fits E p.head.write ≡ true
    unfolding range_fits
    range-fits r =
        let i = (rw (reading-work p.head.write.phase p.head.write p.text r) at pi.work).1 in
        all-every _ (
          not-no _ (not-of _ (is-between 1 p.head.write.size 1024 i.some i.few)),
          (
            not-no _ (le-ltb (file_end E) (p.head.write.offset + p.head.write.size) i.ends),
            (le-leb p.head.write.position (range_words p.head.write) i.place, tt),
          ),
        )

    work-fits : (b : Bool) → is_reading p.head.write.phase ≡ b → is_idle p.head.write.phase ≡ false
        → work_fits E B p.head.place p.head.write ≡ true
    work-fits true r e = choose-true (is_reading p.head.write.phase) (range_fits E p.head.write) _ r ∙ range-fits r
    work-fits false r e = choose-false (is_reading p.head.write.phase) (range_fits E p.head.write) _ r
        ∙ write-fits (is-writing p.head.write.phase e r)

    idle-or-fits : (b : Bool) → is_idle p.head.write.phase ≡ b
        → (elim (is_idle p.head.write.phase) [ true ↦ true | false ↦ work_fits E B p.head.place p.head.write ]) ≡ true
    idle-or-fits true e = choose-true (is_idle p.head.write.phase) true _ e
    idle-or-fits false e = choose-false (is_idle p.head.write.phase) true _ e ∙ work-fits (is_reading p.head.write.phase) refl e

    all-fits : fits E B p.head p.table ≡ true
    unfolding fits head_fits all_below
    all-fits = all-every _ (
      all-every _ (place-fits, (le-leb p.head.length (file_end E) pi.place.sound.small, (idle-or-fits (is_idle p.head.write.phase) refl, tt))),
      (below_all B p.table pi.place.sound.in_image, tt),
    )

    -- 10, 11 and 14: what comes after them in a call's list decides
    pub record-passed : (rs : List Reason) → first (record_reasons E w.words w.shared p.head p.table ++ rs) ≡ first rs
    record-passed rs =
        let joined : not (is_joined w.shared p.head.number) ≡ false = rw (h.numbers n j, j) in
        rw (shared-ok, not-of _ all-fits, joined)

    pub step-on : is_idle p.head.write.phase ≡ false → step_refusal E w.words w.shared p.head p.table ≡ 0
    unfolding step_refusal
    step-on busy_phase = record-passed (15 when is_idle p.head.write.phase ∷ []) ∙ rw busy_phase

    -- 18
    pub not-broken : broken E B (ahead E (memory E w.words) B p.head.place) ≡ false
    unfolding broken bad_entry
    not-broken = rw (ahead-is w bk h n j) (none_any _ (
      refl,
      (walk-legal h.inv.core.image h.inv.core.superblock.is_super h.inv.core.log.tail pi.place.walk, tt),
    ))
