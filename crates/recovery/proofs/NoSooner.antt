-- A bound is tight: n steps of a point alone end nothing, if of n + 1 steps the first n give numbers that are below those of an event that ends it.
use Prim.Native.Nat.{ℕ, zero, suc, ◌<◌}
use mathlib.Core.Path.{◌≡◌, refl, ap₂}
use mathlib.Core.Bool.{Bool, true, false, ◌||◌}
use mathlib.Core.List.{List, [], ◌∷◌, ◌++◌, map}
use lib.ListN.{length, take, drop}
use lib.Dec.{ltb}
use borrow.Author.Tests.{ltb-true}
use Rattle.words.specs.Edition.{Edition}
use Rattle.words.specs.Logic.{all_of, some_of}
use Rattle.points.specs.Record.{no_point}
use Rattle.recovery.specs.World.{World, Call, step, Event, serve, world, events}
use Rattle.recovery.specs.History.{alone}
use Rattle.recovery.specs.Sessions.{code}
use Rattle.words.proofs.Logic.{and_left, and_right}

abbrev pub low : ℕ → List ℕ → Bool
low bound = all_of (λ x. ltb x bound)

module _ (ends : Event → Bool) (bound : ℕ) (not-ended : (e : Event) → code e < bound → ends e ≡ false) (E : Edition) (p : ℕ) where
  not_yet : (n : ℕ) (w : World) → low bound (take n (map code (events E w (alone p (suc n))))) ≡ true → some_of ends (events E w (alone p n)) ≡ false
  unfolding events
  not_yet zero w h = refl
  not_yet (suc n) w h =
      let t = serve E w (step p no_point) in
      let rest = take n (map code (events E t.world (alone p (suc n)))) in
      let l : ltb (code t.event) bound ≡ true = and_left (ltb (code t.event) bound) (low bound rest) h in
      let a : ends t.event ≡ false = not-ended t.event (ltb-true (code t.event) bound l) in
      let b : some_of ends (events E t.world (alone p n)) ≡ false = not_yet n t.world (and_right (ltb (code t.event) bound) (low bound rest) h) in
      ap₂ ◌||◌ a b

  pub no-sooner : (cs : List Call) (n : ℕ) (w : World) → low bound (take n (drop (length cs) (map code (events E w (cs ++ alone p (suc n)))))) ≡ true
      → some_of ends (events E (world E w cs) (alone p n)) ≡ false
  unfolding events world
  no-sooner [] n w h = not_yet n w h
  no-sooner (c ∷ cs) n w h = no-sooner cs n (serve E w c).world h
