-- What the walk from a log place to the tail shows (document 01, "A write, step by step"): where it ends, how many log
-- blocks it enters, whether it is broken, and which of two virtual blocks an entry on the way covers.
use Rattle.std.specs.Prelude.{ℕ}
use Rattle.words.specs.Edition.{Edition}
use Rattle.words.specs.Logic.{some_of}
use Rattle.block_log.specs.declared.Lookahead.{Lookahead}
use Rattle.block_log.specs.Entry.{covers}
use Rattle.block_log.specs.CatchUp.{Walk, place_after, broken}

unfoldable pub lookahead_of : Edition → ℕ → ℕ → ℕ → Walk → Lookahead
lookahead_of E blocks x y w =
    record {
      place = place_after w;
      entered = w.entered;
      broken = broken E blocks w;
      first = some_of (covers x) w.entries;
      last = some_of (covers y) w.entries;
    }
