-- A block in the map is a bit of its word, by shift and mask; past the map nothing is taken.
use mathlib.Core.Path.{ap}
use Prim.Native.Nat.{ℕ, ◌/◌, ◌%◌, ◌^◌}
use lib.Bits.{and_mask}
use lib.Dec.{eqb}
use lib.ListN.{get_or}
use Rattle.words.specs.BlockMap.{taken}
use Rattle.words.proofs.map.is_taken.Goals as goal

pub returns : goal.returns
unfolding taken
returns c = let a = c.args in
    rw c.word.ensures (ap (λ (x : ℕ). eqb x 1) (and_mask (get_or a.map.now (a.b / 64) 0 / 2 ^ (a.b % 64)) 1))
