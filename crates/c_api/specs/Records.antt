-- The version.
use Rattle.std.specs.Prelude.{ℕ}

-- the version of the calls for C, the records and the image: it rises when one of them changes
abbrev pub version : ℕ
version = 5
