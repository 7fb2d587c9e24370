-- What a call that passes 10 and 11 knows, as named facts on numbers, which `omega` reads. Assumes nothing.
use Prim.Native.Nat.{ℕ, zero, suc, ◌+◌, ◌*◌, ◌≤◌, ◌<◌}
use native.Mathlib.Omega.{arith}
use mathlib.Core.Path.{◌≡◌, sym, ◌∙◌}
use mathlib.Core.Bool.{true, false}
use mathlib.Core.List.{List, [], ◌∷◌}
use lib.ListN.{length, get_or}
use lib.Dec.{leb, ltb}
use borrow.Author.Tests.{leb-true, ltb-true, ltb-false, eqb-true, not-true, not-false, le-leb, eq-eqb}
use Rattle.words.specs.Edition.{Edition, file_end, chain_max}
use Rattle.points.proofs.Phases.{writing-busy, writing-apart, reading-busy}
use Rattle.points.proofs.Spans.{lies}
use Rattle.words.specs.Logic.{between, all_of}
use Rattle.words.proofs.Logic.{and_left, and_right, and_both, every-all, any_none, none_any}
use Rattle.words.proofs.Tests.{not-of}
use Rattle.words.proofs.Choice.{choose-true, choose-false}
use Rattle.block_log.specs.declared.Place.{Place}
use Rattle.block_log.specs.declared.Shared.{Shared}
use Rattle.points.specs.declared.Write.{Write}
use Rattle.points.specs.declared.Head.{Head}
use Rattle.points.specs.Record.{is_idle, is_zeroing, is_reading, is_writing, span, range_words, bad_shared, bad_text, past_end, inside}
use Rattle.points.specs.Record.{place_fits, zeroing_fits, write_fits, range_fits, work_fits, head_fits, all_below, fits}

-- ---- a test as its facts

between-facts : (lo x hi : ℕ) → between lo x hi ≡ true → (lo ≤ x) × (x ≤ hi)
between-facts lo x hi e = (leb-true lo x (and_left (leb lo x) (leb x hi) e), leb-true x hi (and_right (leb lo x) (leb x hi) e))

pub inside-facts : (blocks b n : ℕ) → inside blocks b n ≡ true → (1 ≤ b) × (b + n ≤ blocks)
inside-facts blocks b n e = (leb-true 1 b (and_left (leb 1 b) (leb (b + n) blocks) e), leb-true (b + n) blocks (and_right (leb 1 b) (leb (b + n) blocks) e))

-- ---- 10

pub record SharedFits (E : Edition) (words : List ℕ) (s : Shared) : Type 0 where
  pub some-blocks : 4 ≤ s.blocks
  pub few-blocks : s.blocks ≤ 1024
  pub whole : E.block_words * s.blocks ≡ length words
  pub some_chain : 1 ≤ s.chain
  pub few-chain : s.chain ≤ chain_max
  pub reported : all_below s.blocks s.reports ≡ true

pub shared-facts : (E : Edition) (words : List ℕ) (s : Shared) → bad_shared E words s ≡ false → SharedFits E words s
unfolding bad_shared
shared-facts E words s e =
    let f = any_none _ e in
    let b = between-facts 4 s.blocks 1024 (not-false _ f.0) in
    let c = between-facts 1 s.chain chain_max (not-false _ f.1.1.0) in
    record {
      some-blocks = b.0;
      few-blocks = b.1;
      whole = eqb-true (E.block_words * s.blocks) (length words) (not-false _ f.1.0);
      some_chain = c.0;
      few-chain = c.1;
      reported = not-false _ f.1.1.1.0;
    }

-- and back
pub shared-fits : (E : Edition) (words : List ℕ) (s : Shared) → SharedFits E words s → bad_shared E words s ≡ false
unfolding bad_shared
shared-fits E words s f = none_any _ (
  not-of _ (and_both _ _ (le-leb 4 s.blocks f.some-blocks) (le-leb s.blocks 1024 f.few-blocks)),
  (
    not-of _ (eq-eqb (E.block_words * s.blocks) (length words) f.whole),
    (not-of _ (and_both _ _ (le-leb 1 s.chain f.some_chain) (le-leb s.chain chain_max f.few-chain)), (not-of _ f.reported, tt)),
  ),
)

-- ---- 16 and 17

pub record TextFits (E : Edition) (offset size : ℕ) : Type 0 where
  pub some-text : 1 ≤ size
  pub few-text : size ≤ 1024
  pub ends-inside : offset + size ≤ file_end E

pub text-facts : (E : Edition) (offset size : ℕ) → bad_text size ≡ false → past_end E offset size ≡ false → TextFits E offset size
text-facts E offset size e f =
    let b = between-facts 1 size 1024 (not-false _ e) in
    record { some-text = b.0; few-text = b.1; ends-inside = ltb-false (file_end E) (offset + size) f }

-- ---- 11

pub record PlaceFits (E : Edition) (blocks : ℕ) (p : Place) : Type 0 where
  pub block-some : 1 ≤ p.block
  pub block_inside : p.block < blocks
  pub slot-low : 2 ≤ p.slot
  pub slot-high : p.slot ≤ E.block_words

pub place-facts : (E : Edition) (blocks : ℕ) (p : Place) → place_fits E blocks p ≡ true → PlaceFits E blocks p
unfolding place_fits
place-facts E blocks p e =
    let f = every-all _ e in
    let i = inside-facts blocks p.block 1 f.0 in
    let s = between-facts 2 p.slot E.block_words f.1.0 in
    record { block-some = i.0; block_inside = omega (arith, i.1); slot-low = s.0; slot-high = s.1 }

pub record ZeroingFits (E : Edition) (blocks : ℕ) (p : Place) (w : Write) : Type 0 where
  pub zeroing-some : 1 ≤ w.zeroing
  pub zeroing-inside : w.zeroing < blocks
  pub zeroing-position : w.position ≤ E.block_words
  pub slot-last : p.slot ≡ E.block_words

pub zeroing-facts : (E : Edition) (blocks : ℕ) (p : Place) (w : Write) → zeroing_fits E blocks p w ≡ true → ZeroingFits E blocks p w
unfolding zeroing_fits
zeroing-facts E blocks p w e =
    let f = every-all _ e in
    let i = inside-facts blocks w.zeroing 1 f.0 in
    record {
      zeroing-some = i.0;
      zeroing-inside = omega (arith, i.1);
      zeroing-position = leb-true w.position E.block_words f.1.0;
      slot-last = eqb-true p.slot E.block_words f.1.1.0;
    }

pub record RunFits (E : Edition) (blocks : ℕ) (w : Write) : Type 0 where
  pub text : TextFits E w.offset w.size
  pub run_some : 1 ≤ w.run
  pub run_inside : w.run + span E w.offset w.size ≤ blocks

module _ (E : Edition) (blocks : ℕ) (p : Place) (w : Write) (e : write_fits E blocks p w ≡ true) where
  pub run-facts : RunFits E blocks w
  unfolding write_fits
  run-facts =
      let f = every-all _ e in
      let i = inside-facts blocks w.run (span E w.offset w.size) f.1.1.0 in
      record { text = text-facts E w.offset w.size (not-true _ f.0) (not-true _ f.1.0); run_some = i.0; run_inside = i.1 }

  pub write-zeroing-facts : is_zeroing w.phase ≡ true → ZeroingFits E blocks p w
  unfolding write_fits
  write-zeroing-facts z = zeroing-facts E blocks p w (sym (choose-true (is_zeroing w.phase) _ _ z) ∙ (every-all _ e).1.1.1.0)

  pub write-position : is_zeroing w.phase ≡ false → w.position ≤ E.block_words * span E w.offset w.size
  unfolding write_fits
  write-position z =
      let l = leb-true w.position (span E w.offset w.size * E.block_words)
      (sym (choose-false (is_zeroing w.phase) _ _ z) ∙ (every-all _ e).1.1.1.0) in
      omega arith

pub record RangeFits (E : Edition) (w : Write) : Type 0 where
  pub text : TextFits E w.offset w.size
  pub position : w.position ≤ range_words w

range-facts : (E : Edition) (w : Write) → range_fits E w ≡ true → RangeFits E w
unfolding range_fits
range-facts E w e =
    let f = every-all _ e in
    record { text = text-facts E w.offset w.size (not-true _ f.0) (not-true _ f.1.0); position = leb-true _ _ f.1.1.0 }

module _ (E : Edition) (blocks : ℕ) (h : Head) (table : List ℕ) (e : fits E blocks h table ≡ true) where
  fits_head : head_fits E blocks h ≡ true
  unfolding fits
  fits_head = (every-all _ e).0

  pub fits-place : PlaceFits E blocks h.place
  unfolding head_fits
  fits-place = place-facts E blocks h.place (every-all _ fits_head).0

  pub fits-length : h.length ≤ file_end E
  unfolding head_fits
  fits-length = leb-true h.length (file_end E) (every-all _ fits_head).1.0

  -- what is under way fits: a write; a read
  fits_work : is_idle h.write.phase ≡ false → work_fits E blocks h.place h.write ≡ true
  unfolding head_fits
  fits_work i = sym (choose-false (is_idle h.write.phase) true _ i) ∙ (every-all _ fits_head).1.1.0

  pub fits-write : is_writing h.write.phase ≡ true → write_fits E blocks h.place h.write ≡ true
  fits-write i =
      sym (choose-false (is_reading h.write.phase) (range_fits E h.write) _ (writing-apart h.write.phase i))
      ∙ fits_work (writing-busy h.write.phase i)

  pub fits-range : is_reading h.write.phase ≡ true → RangeFits E h.write
  fits-range i = range-facts E h.write
      (sym (choose-true (is_reading h.write.phase) (range_fits E h.write) _ i) ∙ fits_work (reading-busy h.write.phase i))

  pub fits-table : all_below blocks table ≡ true
  unfolding fits
  fits-table = (every-all _ e).1.0

-- each entry of a table that fits
pub table-inside : (blocks : ℕ) (table : List ℕ) → 1 ≤ blocks → all_below blocks table ≡ true → (v : ℕ) → get_or table v 0 < blocks
unfolding all_below
table-inside blocks [] l e v = omega arith
table-inside blocks (x ∷ xs) l e zero = ltb-true x blocks (and_left (ltb x blocks) (all_of (λ b. ltb b blocks) xs) e)
table-inside blocks (x ∷ xs) l e (suc v) = table-inside blocks xs l (and_right (ltb x blocks) (all_of (λ b. ltb b blocks) xs) e) v

pub span-few : (E : Edition) (offset size : ℕ) → TextFits E offset size → (1 ≤ span E offset size) × (span E offset size ≤ 3)
span-few E offset size t = (omega arith, (lies E offset size t.some-text).few t.few-text)
