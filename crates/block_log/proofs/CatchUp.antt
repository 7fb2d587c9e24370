-- One turn of catching up, where the walk is not broken: the entries of this block are legal, and the walk goes on in the next.
use mathlib.Core.Path.{◌≡◌, ◌∙◌, sym, refl, ap}
use mathlib.Core.Logic.{◌≢◌}
use mathlib.Core.List.{List, [], ◌∷◌}
use mathlib.Core.Bool.{true, false, not}
use Prim.Native.Nat.{ℕ, ◌+◌, ◌≤◌, ◌<◌}
use native.Mathlib.Decide.{ℕ_discrete, dec_le}
use native.Mathlib.Omega.{arith}
use lib.ListN.{length, get_or, drop}
use borrow.Author.Tests.{not-false}
use Rattle.words.specs.Edition.{Edition}
use Rattle.words.specs.Logic.{up_to_zero, any}
use Rattle.words.specs.Memory.{Memory, block_at, word_at}
use Rattle.block_log.specs.CatchUp.{Walk, following, ahead, broken}
use Rattle.block_log.specs.Chain.{next_index}
use Rattle.block_log.specs.Opening.{bad_entry}
use Rattle.block_log.specs.Replay.{Mapped, replay_on}
use Rattle.block_log.specs.declared.Place.{Place}
use Rattle.words.proofs.Logic.{or_left, or_right, any_none}
use Rattle.block_log.proofs.Look.{bad-append}
use Rattle.block_log.proofs.Replay.{replay-append}
use Rattle.block_log.proofs.FromPlace.{Spot, entering, onward, ahead_none, onward-stop, onward-last, onward-full, onward-out, onward-on}
use Rattle.block_log.proofs.Walk.{here, never}

-- a walk that is not broken
pub record Unbroken (E : Edition) (blocks : ℕ) (w : Walk) : Type 0 where
  pub sound : w.sound ≡ true
  pub legal : bad_entry E blocks w.entries ≡ false

pub unbroken : (E : Edition) (blocks : ℕ) (w : Walk) → broken E blocks w ≡ false → Unbroken E blocks w
unfolding broken
unbroken E blocks w h =
    let a = any_none (not w.sound ∷ bad_entry E blocks w.entries ∷ []) h in
    record { sound = not-false _ a.0; legal = a.1.0 }

-- where the word at the log place is empty the walk is not broken, and changes no file
module _ (E : Edition) (m : Memory) (blocks : ℕ) (p : Place) (slot : p.slot < E.block_words) (empty : word_at m p.block p.slot ≡ 0) where
  pub none-broken : broken E blocks (ahead E m blocks p) ≡ false
  unfolding broken bad_entry any
  none-broken = rw (ahead_none E m blocks p slot empty)

  pub none-replayed : (f : Mapped) → replay_on E f (ahead E m blocks p).entries ≡ f
  unfolding replay_on
  none-replayed f = rw (ahead_none E m blocks p slot empty)

module _ (E : Edition) (m : Memory) (blocks : ℕ) (p : Spot) (part : List ℕ) (ep : part ≡ block_at m p.block) where
  abbrev es : List ℕ
  es = up_to_zero (drop p.slot part)

  es-is : here m p.block p.slot ≡ es
  es-is = ap (λ (xs : List ℕ). up_to_zero (drop p.slot xs)) (sym ep)

  len : {t : ℕ} → t ≡ p.slot + length es → p.slot + length (here m p.block p.slot) ≡ t
  len e = rw es-is (sym e)

  module _ (t : ℕ) (et : t ≡ p.slot + length es) where
    pub here-stop : t < E.block_words → (onward E m blocks p).entries ≡ es
    here-stop l = ap (λ (w : Walk). w.entries) (onward-stop E m blocks p (rw (len et) l)) ∙ es-is

    module _ (n : ℕ) (en : n ≡ get_or part 0 0) (full : E.block_words ≤ t) where
      next : next_index m p.block ≡ n
      next = sym (en ∙ ap (λ (xs : List ℕ). get_or xs 0 0) ep)

      pub here-last : n ≡ 0 → (onward E m blocks p).entries ≡ es
      here-last z = ap (λ (w : Walk). w.entries) (onward-last E m blocks p (rw (len et) full) n next z) ∙ es-is

      -- the next block: it is there, and the walk goes on in it
      module _ (some : n ≢ 0) (good : Unbroken E blocks (onward E m blocks p)) where
        unsound : {w : Walk} → onward E m blocks p ≡ w → w.sound ≡ false → ⊥
        unsound {w} e f = never (sym f ∙ ap (λ (v : Walk). v.sound) (sym e) ∙ good.sound)

        pub entered-less : p.entered < blocks
        entered-less = go (dec_le blocks p.entered)
          where
            go : Dec (blocks ≤ p.entered) → p.entered < blocks
            go (no g) = omega arith
            go (yes h) = absurd (unsound (onward-full E m blocks p (rw (len et) full) n next some h) refl)

        pub next-inside : n < blocks
        next-inside = go (dec_le blocks n)
          where
            go : Dec (blocks ≤ n) → n < blocks
            go (no g) = omega arith
            go (yes o) = absurd (unsound (onward-out E m blocks p (rw (len et) full) n next some entered-less o) refl)

        abbrev there : Walk
        there = onward E m blocks (entering p n)

        pub here_on : onward E m blocks p ≡ following es there
        here_on = onward-on E m blocks p (rw (len et) full) n next some entered-less next-inside ∙ ap (λ (xs : List ℕ). following xs there) es-is

        pub unbroken-on : Unbroken E blocks there
        unbroken-on =
            let e = here_on in
            record {
              sound = ap (λ (w : Walk). w.sound) (sym e) ∙ good.sound;
              legal =
                  or_right (bad_entry E blocks es) _
                  (sym (bad-append E blocks es there.entries) ∙ ap (λ (w : Walk). bad_entry E blocks w.entries) (sym e) ∙ good.legal);
            }

        pub replay-on : (f g : Mapped) → g ≡ replay_on E f es → replay_on E f (onward E m blocks p).entries ≡ replay_on E g there.entries
        replay-on f g eg =
            ap (λ (w : Walk). replay_on E f w.entries) here_on ∙ replay-append E f es there.entries
            ∙ ap (λ (k : Mapped). replay_on E k there.entries) (sym eg)

  -- the entries of the walk's first block are legal where all are
  pub front-legal : Unbroken E blocks (onward E m blocks p) → bad_entry E blocks es ≡ false
  front-legal g = go (dec_le E.block_words (p.slot + length es)) (ℕ_discrete (get_or part 0 0) 0)
    where
      go : Dec (E.block_words ≤ p.slot + length es) → Dec (get_or part 0 0 ≡ 0) → bad_entry E blocks es ≡ false
      go (no l) d = ap (bad_entry E blocks) (sym (here-stop (p.slot + length es) refl (omega arith))) ∙ g.legal
      go (yes f) (yes z) = ap (bad_entry E blocks) (sym (here-last (p.slot + length es) refl (get_or part 0 0) refl f z)) ∙ g.legal
      go (yes f) (no ne) =
          let more = (there (p.slot + length es) refl (get_or part 0 0) refl f ne g).entries in
          or_left (bad_entry E blocks es) (bad_entry E blocks more)
          (sym (bad-append E blocks es more)
          ∙ ap (λ (w : Walk). bad_entry E blocks w.entries) (sym (here_on (p.slot + length es) refl (get_or part 0 0) refl f ne g)) ∙ g.legal)
