-- Where a point stands in the log, and where the log ends.
use Prim.Native.Nat.{ℕ, suc}
use Rattle.block_log.specs.declared.Place.{Place}

-- a point's place: a log block, and a slot of it
pub record LogPlace : Type 0 where
  pub blk : ℕ
  pub slot : ℕ

-- the place in a record
abbrev pub place_of : Place → LogPlace
place_of l = record { blk = l.block; slot = l.slot }

-- the tail, and the next indexes on the way to it: the chain has one block more
pub record LogEnd : Type 0 where
  pub blk : ℕ
  pub slot : ℕ
  pub links : ℕ

-- the place of a point that enters block b, that has read or stored one entry, and that has caught up
abbrev pub place_in : ℕ → LogPlace
place_in b = record { blk = b; slot = 2 }

abbrev pub place_behind : LogPlace → LogPlace
place_behind l = record { blk = l.blk; slot = suc l.slot }

abbrev pub place_at : LogEnd → LogPlace
place_at t = record { blk = t.blk; slot = t.slot }

-- the tail after one entry more, and after the link of block z
abbrev pub end_behind : LogEnd → LogEnd
end_behind t = record { blk = t.blk; slot = suc t.slot; links = t.links }

abbrev pub end_in : ℕ → LogEnd → LogEnd
end_in z t = record { blk = z; slot = 2; links = suc t.links }
