-- What a beginning settles before it changes anything, for the contract of the function that settles it.
use Rattle.std.specs.Prelude.{ℕ, ◌≡◌, List, Result, IfOk}
use Rattle.words.specs.Edition.{one}
use Rattle.words.specs.Memory.{memory}
use Rattle.block_log.specs.declared.Shared.{Shared}
use Rattle.block_log.specs.declared.Place.{Place}
use Rattle.block_log.specs.declared.Refusal.{Refusal}
use Rattle.block_log.specs.Opening.{number_of}
use Rattle.block_log.specs.CatchUp.{ahead, place_after}
use Rattle.points.specs.declared.Head.{Head}
use Rattle.points.specs.declared.Numbers.{Numbers}
use Rattle.points.specs.declared.begin.Start.{Start}
use Rattle.points.specs.Record.{span}
use Rattle.points.specs.Search.{shared_of, Known, search}
use Rattle.points.specs.Calls.{begin_refusal, begin_read_refusal}

-- of either kind: the first reason that holds and, where none does, the log place at the tail; the map of taken blocks has no say, the reports none but
-- whether they are below the block count
pub record Settled (words : List ℕ) (n : Numbers) (h : Head) (table : List ℕ) (offset size : ℕ) (r : Result Place Refusal) : Type 0 where
  pub refusal : (taken reports : List ℕ) → Known n reports → number_of r ≡ begin_read_refusal one words (shared_of n taken reports) h table offset size
  pub tail : IfOk r (λ place. place ≡ place_after (ahead one (memory one words) n.blocks h.place))

-- of a write: the run's first block too
pub record Started (words : List ℕ) (s : Shared) (h : Head) (table : List ℕ) (offset size : ℕ) (r : Result Start Refusal) : Type 0 where
  pub refusal : number_of r ≡ begin_refusal one words s h table offset size
  pub tail : IfOk r (λ start. start.place ≡ place_after (ahead one (memory one words) s.blocks h.place))
  pub found : IfOk r (λ start. start.run ≡ search s (span one offset size))
