-- The file as a point sees it: each reason why it is refused, and the file where there is none. Assumes nothing.
use Prim.Native.Nat.{ℕ, zero, suc, ◌≤◌, ◌<◌}
use mathlib.Core.Path.{◌≡◌, refl, sym, ap, ◌∙◌}
use mathlib.Core.Logic.{◌≢◌}
use mathlib.Core.Bool.{Bool, true, false}
use mathlib.Core.List.{List, [], ◌∷◌, ◌++◌}
use lib.ListN.{get_or}
use lib.Dec.{ltb, eqb}
use borrow.Author.Tests.{ltb-true, eqb-true}
use Rattle.words.specs.Edition.{Edition, one, blocks_max}
use Rattle.words.specs.Logic.{Reason, first, ◌when◌}
use Rattle.words.specs.Memory.{memory, word_at}
use Rattle.words.proofs.Logic.{and_left, and_right}
use Rattle.words.proofs.Tests.{no_reason, passes}
use Rattle.block_log.specs.declared.Shared.{Shared}
use Rattle.block_log.specs.declared.Lookahead.{Lookahead}
use Rattle.block_log.specs.Replay.{Mapped, replay_on}
use Rattle.block_log.specs.CatchUp.{Walk, ahead, broken}
use Rattle.block_log.specs.Look.{lookahead_of}
use Rattle.block_log.proofs.CatchUp.{none-broken, none-replayed}
use Rattle.std.specs.Prelude.{Err}
use Rattle.block_log.specs.declared.Refusal.{Refusal}
use Rattle.block_log.specs.Refusals.{number}
use Rattle.points.specs.declared.Head.{Head}
use Rattle.points.specs.Record.{record_reasons, file_at, unfit}
use Rattle.points.specs.Reading.{seen}
use Rattle.points.specs.Lent.{catch_up_refusal, at_tail, Settles}
use Rattle.points.proofs.RecordFacts.{shared-facts}
use Rattle.points.proofs.RecordReasons.{unfit-before, fit-goes-on, first-settled, first-goes-on}

-- reasons that all fail leave it to those that come after
pub failed-before : (rs more : List Reason) → ((i : ℕ) → (get_or rs i no_reason).holds ≡ false) → first (rs ++ more) ≡ first more
failed-before [] more h = refl
failed-before (r ∷ rs) more h = first-goes-on r.number r.holds (rs ++ more) (h 0) ∙ failed-before rs more (λ i. h (suc i))

-- what is settled where there is a reason
pub refused_as :
    {words : List ℕ} {s : Shared} {h : Head} {table : List ℕ} {past : Bool} (e : Refusal)
    → number e ≡ catch_up_refusal one words s h table past → Settles words s h table past (Err e)
refused_as e f = record { refusal = f; file = tt }

-- what the walk saw
pub look-broken : (E : Edition) (seen : Lookahead) (blocks x y : ℕ) (w : Walk) → seen ≡ lookahead_of E blocks x y w
    → seen.broken ≡ broken E blocks w
unfolding lookahead_of
look-broken E seen blocks x y w e = ap (λ (s : Lookahead). s.broken) e

module _ (E : Edition) (I : List ℕ) (s : Shared) (h : Head) (table : List ℕ) (past : Bool) where
  abbrev ahead_broken : Bool
  ahead_broken = broken E s.blocks (ahead E (memory E I) s.blocks h.place)

  abbrev pub catch-up-reasons : List Reason
  catch-up-reasons = record_reasons E I s h table ++ 17 when past ∷ 18 when ahead_broken ∷ []

  pub catch-up-unfit : (n : ℕ) → n ≡ unfit E I s h table → n ≢ 0 → n ≡ catch_up_refusal E I s h table past
  unfolding catch_up_refusal
  catch-up-unfit zero e ne = absurd (ne refl)
  catch-up-unfit (suc n) e ne = sym (unfit-before E I s h table (17 when past ∷ 18 when ahead_broken ∷ []) n (sym e))

  module _ (fit : unfit E I s h table ≡ 0) where
    pub catch-up-past : past ≡ true → 17 ≡ catch_up_refusal E I s h table past
    unfolding catch_up_refusal
    catch-up-past p = sym (fit-goes-on E I s h table fit (17 when past ∷ 18 when ahead_broken ∷ []) ∙ first-settled 17 past (18 when ahead_broken ∷ []) p)

    catch-up-late : past ≡ false → catch_up_refusal E I s h table past ≡ first (18 when ahead_broken ∷ [])
    unfolding catch_up_refusal
    catch-up-late p = fit-goes-on E I s h table fit (17 when past ∷ 18 when ahead_broken ∷ []) ∙ first-goes-on 17 past (18 when ahead_broken ∷ []) p

    pub catch-up-broken : past ≡ false → ahead_broken ≡ true → 18 ≡ catch_up_refusal E I s h table past
    catch-up-broken p b = sym (catch-up-late p ∙ first-settled 18 ahead_broken [] b)

    pub catch-up-clear : past ≡ false → ahead_broken ≡ false → 0 ≡ catch_up_refusal E I s h table past
    catch-up-clear p b = sym (catch-up-late p ∙ first-goes-on 18 ahead_broken [] b)

    -- at the tail nothing is ahead
    module _ (p : past ≡ false) (tail : at_tail E (memory E I) h.place ≡ true) where
      abbrev word : ℕ
      word = word_at (memory E I) h.place.block h.place.slot

      slot : h.place.slot < E.block_words
      slot = ltb-true h.place.slot E.block_words (and_left _ (eqb word 0) tail)

      empty : word ≡ 0
      empty = eqb-true word 0 (and_right (ltb h.place.slot E.block_words) _ tail)

      pub tail-clear : 0 ≡ catch_up_refusal E I s h table past
      tail-clear = catch-up-clear p (none-broken E (memory E I) s.blocks h.place slot empty)

      pub tail-file : file_at h table ≡ seen E I s h table
      unfolding seen
      tail-file = sym (none-replayed E (memory E I) s.blocks h.place slot empty (file_at h table))

  module _ (clear : catch_up_refusal E I s h table past ≡ 0) where
    pub catch-up-passed : (i : ℕ) → (get_or catch-up-reasons i no_reason).holds ≡ false
    unfolding catch_up_refusal
    catch-up-passed = passes catch-up-reasons refl clear

    pub catch-up-inside : past ≡ false
    catch-up-inside = catch-up-passed 3

    -- the file as its entries ahead leave it: few blocks, and a walk that is not broken, are what taking them in asks for
    pub caught-file :
        (f : Mapped)
        → (s.blocks ≤ blocks_max → ahead_broken ≡ false → f ≡ replay_on E (file_at h table) (ahead E (memory E I) s.blocks h.place).entries)
        → f ≡ seen E I s h table
    unfolding seen
    caught-file f taken_in = taken_in (shared-facts E I s (catch-up-passed 0)).few-blocks (catch-up-passed 4)
