-- What is found fits into 32 bits.
use native.Mathlib.Omega.{arith}
use Rattle.words.proofs.Search.{found-le}
use Rattle.words.proofs.map.search.Goals as goal

pub overflow_cast-result : goal.overflow_cast-result
overflow_cast-result c = let a = c.args in record { fits = omega (arith, c.best_start.ensures, found-le a.map.now a.blocks a.n) }
