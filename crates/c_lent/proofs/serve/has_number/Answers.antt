-- `c_lent::serve::has_number`: some point's number is it.
use mathlib.Core.Path.{◌∙◌}
use lib.ListN.{get_or}
use lib.Dec.{eqb}
use Rattle.std.proofs.Common.{rules, tests, List, ℕ}
use Rattle.std.proofs.lemmas.Iterator.{YieldsList-from_slice}
use Rattle.std.proofs.lemmas.Iterator.Search.{any_from_yields_List}
use Rattle.c_lent.proofs.Places.{some-first}
use Rattle.c_lent.proofs.serve.has_number.Goals as goal

pub returns : goal.returns
returns c =
    any_from_yields_List (λ (x : List ℕ). eqb c.args.number (get_or x 0 0)) _ _ _ c.any.ensures.ran (YieldsList-from_slice c.args.heads.now cc) (λ x b q k. search (rules, tests))
    ∙ some-first (eqb c.args.number) c.args.heads.now
