-- One turn of the walk from a log place: a law for each way it goes on or ends. A turn begins in a log block, at a slot, with so many log blocks entered
-- before it.
use mathlib.Core.Path.{◌≡◌, ◌∙◌, ap}
use mathlib.Core.Logic.{◌≢◌}
use mathlib.Core.List.{List, []}
use mathlib.Core.Bool.{true, false}
use Prim.Native.Nat.{ℕ, suc, ◌-◌, ◌+◌, ◌≤◌, ◌<◌}
use native.Mathlib.Omega.{arith}
use lib.ListN.{length}
use Rattle.words.specs.Edition.{Edition}
use Rattle.words.specs.Memory.{Memory, block_at, word_at}
use Rattle.words.proofs.Logic.{up_to_zero-end}
use Rattle.block_log.specs.CatchUp.{Walk, ended, following, walk, ahead}
use Rattle.block_log.specs.Chain.{next_index}
use Rattle.block_log.specs.declared.Place.{Place}
use Rattle.block_log.proofs.Walk.{here, walk-stop, walk-last, walk-full, walk-out, walk-on}

pub record Spot : Type 0 where
  pub block : ℕ
  pub slot : ℕ
  pub entered : ℕ

-- the first turn begins at the log place; the next one at the start of the next log block, which is block x
abbrev pub from : Place → Spot
from p = record { block = p.block; slot = p.slot; entered = 0 }

abbrev pub entering : Spot → ℕ → Spot
entering p x = record { block = x; slot = 2; entered = p.entered + 1 }

-- the walk from a turn on
unfoldable pub onward : Edition → Memory → ℕ → Spot → Walk
onward E m blocks p = walk E m blocks (blocks - p.entered) p.block p.slot

pub ahead-onward : (E : Edition) (m : Memory) (blocks : ℕ) (p : Place) → ahead E m blocks p ≡ onward E m blocks (from p)
unfolding ahead onward
ahead-onward E m blocks p = let e : blocks ≡ blocks - 0 = omega arith in ap (λ (room : ℕ). walk E m blocks room p.block p.slot) e

module _ (E : Edition) (m : Memory) (blocks : ℕ) (p : Spot) where
  abbrev es : List ℕ
  es = here m p.block p.slot

  abbrev end : ℕ
  end = p.slot + length es

  pub onward-stop : end < E.block_words → onward E m blocks p ≡ ended es p.block end true
  unfolding onward
  onward-stop l = walk-stop E m blocks p.block p.slot (blocks - p.entered) l

  module _ (full : E.block_words ≤ end) (n : ℕ) (next : next_index m p.block ≡ n) where
    pub onward-last : n ≡ 0 → onward E m blocks p ≡ ended es p.block end true
    unfolding onward
    onward-last z = walk-last E m blocks p.block p.slot (blocks - p.entered) full (next ∙ z)

    module _ (some : n ≢ 0) where
      next-suc : next_index m p.block ≡ suc (n - 1)
      next-suc = next ∙ omega arith

      abbrev with-room : ℕ → Walk
      with-room room = walk E m blocks room p.block p.slot

      pub onward-full : blocks ≤ p.entered → onward E m blocks p ≡ ended es p.block end false
      unfolding onward
      onward-full h =
          let e : blocks - p.entered ≡ 0 = omega arith in
          ap with-room e ∙ walk-full E m blocks p.block p.slot (n - 1) full next-suc

      module _ (room : p.entered < blocks) where
        room-suc : blocks - p.entered ≡ suc (blocks - (p.entered + 1))
        room-suc = omega arith

        pub onward-out : blocks ≤ n → onward E m blocks p ≡ ended es p.block end false
        unfolding onward
        onward-out o = ap with-room room-suc ∙ walk-out E m blocks p.block p.slot (blocks - (p.entered + 1)) (n - 1) full next-suc (omega arith)

        pub onward-on : n < blocks → onward E m blocks p ≡ following es (onward E m blocks (entering p n))
        unfolding onward
        onward-on o =
            let s : suc (n - 1) ≡ n = omega arith in
            ap with-room room-suc ∙ walk-on E m blocks p.block p.slot (blocks - (p.entered + 1)) (n - 1) full next-suc (omega arith)
            ∙ ap (λ (x : ℕ). following es (walk E m blocks (blocks - (p.entered + 1)) x 2)) s

-- an empty word at the place: nothing is ahead
pub ahead_none : (E : Edition) (m : Memory) (blocks : ℕ) (p : Place) → p.slot < E.block_words → word_at m p.block p.slot ≡ 0
    → ahead E m blocks p ≡ ended [] p.block p.slot true
ahead_none E m blocks p l z =
    let none : here m p.block p.slot ≡ [] = up_to_zero-end (block_at m p.block) p.slot z in
    let here_end : p.slot + length (here m p.block p.slot) ≡ p.slot = omega (arith, ap length none) in
    ahead-onward E m blocks p ∙ onward-stop E m blocks (from p) (omega (arith, here_end)) ∙ rw (here_end, none)
