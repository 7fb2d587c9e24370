-- Where each point stands (document 02, K4).
use Rattle.std.specs.Prelude.{ℕ, Bool, true, false}
use Rattle.points.specs.declared.Point.{Point}
use Rattle.points.specs.Record.{is_joined}
use Rattle.recovery.specs.World.{World}

-- "the log block of its log place, 0 when not joined"
abbrev pub stands_in : Bool → Point → ℕ
stands_in true p = p.head.place.block
stands_in false p = 0

abbrev pub standing : World → ℕ → ℕ
standing w n = stands_in (is_joined w.shared n) (w.newest n)
