-- The records that C lends whole, as what their parts hold.
use Rattle.c_lent.specs.declared.SharedRecord.{SharedRecord}
use Rattle.c_lent.specs.declared.PointRecord.{PointRecord}
use Rattle.c_lent.specs.Numbers.{SharedLent, PointLent, shared_lent, point_lent, textless}

abbrev pub shared_parts : SharedRecord → SharedLent
shared_parts s = shared_lent s.numbers s.taken

abbrev pub point_parts : PointRecord → PointLent
point_parts p = point_lent p.head p.table p.text

-- leaving, reading and locating do not look at the text
abbrev pub textless_parts : PointRecord → PointLent
textless_parts p = textless p.head p.table
