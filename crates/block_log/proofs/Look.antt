-- One turn of `look`: what it has gathered and the walk from here on give what the walk from the start shows. A law for each way on and out.
use mathlib.Core.Path.{◌≡◌, ◌∙◌, sym, ap}
use mathlib.Core.Logic.{◌≢◌}
use mathlib.Core.List.{List, [], ◌∷◌, ◌++◌}
use mathlib.Core.Bool.{true, false, Bool, not, ◌||◌, or_assoc, or-false}
use Prim.Native.Nat.{ℕ, suc, ◌+◌, ◌≤◌, ◌<◌}
use native.Mathlib.Omega.{arith}
use lib.ListN.{length}
use Rattle.words.specs.Edition.{Edition}
use Rattle.words.specs.Logic.{some_of, any}
use Rattle.words.specs.Memory.{Memory}
use Rattle.block_log.specs.CatchUp.{Walk, ended, following, ahead, place_after, broken}
use Rattle.block_log.specs.Chain.{next_index}
use Rattle.block_log.specs.Entry.{covers}
use Rattle.block_log.specs.Look.{lookahead_of}
use Rattle.block_log.specs.Opening.{bad_entry}
use Rattle.block_log.specs.declared.Place.{Place}
use Rattle.block_log.specs.declared.Lookahead.{Lookahead}
use Rattle.words.proofs.Tests.{some-append}
use Rattle.block_log.proofs.FromPlace.{Spot, from, entering, onward, ahead-onward, onward-stop, onward-last, onward-full, onward-out, onward-on}
use Rattle.block_log.proofs.Walk.{here}

pub bad-append : (E : Edition) (blocks : ℕ) (xs ys : List ℕ) → bad_entry E blocks (xs ++ ys) ≡ bad_entry E blocks xs || bad_entry E blocks ys
unfolding bad_entry
bad-append E blocks xs ys = some-append _ xs ys

-- ---- the accumulated answer

unfoldable pub lookahead_with : Edition → ℕ → ℕ → ℕ → Bool → Bool → Bool → ℕ → Walk → Lookahead
lookahead_with E blocks x y wrong first last entered w = record {
  place = place_after w;
  entered = entered + w.entered;
  broken = any (not w.sound ∷ (wrong || bad_entry E blocks w.entries) ∷ []);
  first = first || some_of (covers x) w.entries;
  last = last || some_of (covers y) w.entries;
}

pub lookahead-start :
    (E : Edition) (m : Memory) (blocks x y : ℕ) (p : Place)
    → lookahead_of E blocks x y (ahead E m blocks p) ≡ lookahead_with E blocks x y false false false 0 (onward E m blocks (from p))
unfolding lookahead_of lookahead_with broken
lookahead-start E m blocks x y p =
    let e : (ahead E m blocks p).entered ≡ 0 + (ahead E m blocks p).entered = omega arith in
    rw (← ahead-onward E m blocks p) (λ i. record {
      place = place_after (ahead E m blocks p);
      entered = e i;
      broken = broken E blocks (ahead E m blocks p);
      first = some_of (covers x) (ahead E m blocks p).entries;
      last = some_of (covers y) (ahead E m blocks p).entries;
    })

-- the answer of a walk that ends in this turn, at this slot
abbrev pub answer : Spot → ℕ → Bool → Bool → Bool → Lookahead
answer p t broken first last =
    record { place = record { block = p.block; slot = t }; entered = p.entered; broken = broken; first = first; last = last }

-- one turn, from p on: what was gathered before it and after it, and where its entries end
pub record Turn (E : Edition) (m : Memory) (blocks x y : ℕ) (p : Spot) (wrong first last wo fo lo : Bool) (t : ℕ) : Type 0 where
  pub wrong-on : wrong || bad_entry E blocks (here m p.block p.slot) ≡ wo
  pub first_on : first || some_of (covers x) (here m p.block p.slot) ≡ fo
  pub last_on : last || some_of (covers y) (here m p.block p.slot) ≡ lo
  pub end : p.slot + length (here m p.block p.slot) ≡ t

-- a test of a part, and the gathered one
pub gathered :
    (p : List ℕ → Bool) (part block : List ℕ) (before here after : Bool) → part ≡ block → here ≡ p part → after ≡ before || here
    → before || p block ≡ after
gathered p part block before here after e h g = sym (g ∙ ap (λ (z : Bool). before || z) (h ∙ ap p e))

module _ (E : Edition) {m : Memory} {blocks x y : ℕ} {p : Spot} {wrong first last wo fo lo : Bool} {t : ℕ}
    (turn : Turn E m blocks x y p wrong first last wo fo lo t) where
  abbrev es : List ℕ
  es = here m p.block p.slot

  abbrev shown : Walk → Lookahead
  shown w = lookahead_with E blocks x y wrong first last p.entered w

  no_more : p.entered + 0 ≡ p.entered
  no_more = omega arith

  sound-end : shown (ended es p.block (p.slot + length es) true) ≡ answer p t wo fo lo
  unfolding lookahead_with any
  sound-end = rw (turn.wrong-on, turn.first_on, turn.last_on, turn.end, or-false wo, no_more)

  unsound-end : shown (ended es p.block (p.slot + length es) false) ≡ answer p t true fo lo
  unfolding lookahead_with any
  unsound-end = rw (turn.first_on, turn.last_on, turn.end, no_more)

  pub turn-stop : t < E.block_words → shown (onward E m blocks p) ≡ answer p t wo fo lo
  turn-stop l = ap shown (onward-stop E m blocks p (rw turn.end l)) ∙ sound-end

  module _ (n : ℕ) (next : next_index m p.block ≡ n) (full : E.block_words ≤ t) where
    pub turn_last : n ≡ 0 → shown (onward E m blocks p) ≡ answer p t wo fo lo
    turn_last z = ap shown (onward-last E m blocks p (rw turn.end full) n next z) ∙ sound-end

    module _ (some : n ≢ 0) where
      pub turn-full : blocks ≤ p.entered → shown (onward E m blocks p) ≡ answer p t true fo lo
      turn-full h = ap shown (onward-full E m blocks p (rw turn.end full) n next some h) ∙ unsound-end

      module _ (room : p.entered < blocks) where
        pub turn-out : blocks ≤ n → shown (onward E m blocks p) ≡ answer p t true fo lo
        turn-out o = ap shown (onward-out E m blocks p (rw turn.end full) n next some room o) ∙ unsound-end

        followed : (w : Walk) → shown (following es w) ≡ lookahead_with E blocks x y wo fo lo (p.entered + 1) w
        unfolding lookahead_with bad_entry
        followed w =
            let one_more : p.entered + suc w.entered ≡ p.entered + 1 + w.entered = omega arith in
            rw (on _ wrong wo turn.wrong-on, on (covers x) first fo turn.first_on, on (covers y) last lo turn.last_on, one_more)
          where
            on :
                (p : ℕ → Bool) (before after : Bool) → before || some_of p es ≡ after
                → before || some_of p (es ++ w.entries) ≡ after || some_of p w.entries
            on p before after e =
                ap (λ (z : Bool). before || z) (some-append p es w.entries) ∙ sym (or_assoc before (some_of p es) (some_of p w.entries))
                ∙ ap (λ (z : Bool). z || some_of p w.entries) e

        pub turn_on : n < blocks → shown (onward E m blocks p) ≡ lookahead_with E blocks x y wo fo lo (p.entered + 1) (onward E m blocks (entering p n))
        turn_on o = ap shown (onward-on E m blocks p (rw turn.end full) n next some room o) ∙ followed (onward E m blocks (entering p n))
