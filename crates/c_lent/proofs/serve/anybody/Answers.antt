-- `c_lent::serve::anybody`: some answer's kind passes.
use mathlib.Core.Path.{◌∙◌}
use lib.ListN.{get_or}
use Rattle.std.proofs.Common.{rules, tests, List, ℕ}
use Rattle.std.proofs.lemmas.Iterator.{YieldsList-from_slice}
use Rattle.std.proofs.lemmas.Iterator.Search.{any_from_yields_List}
use Rattle.c_lent.specs.Serving.{kind_goes_on}
use Rattle.c_lent.proofs.Places.{some-first}
use Rattle.c_lent.proofs.serve.anybody.Goals as goal

pub returns : goal.returns
returns c =
    any_from_yields_List (λ (x : List ℕ). kind_goes_on (get_or x 0 0)) _ _ _ c.any.ensures.ran (YieldsList-from_slice c.args.answers.now cc) (λ x b q k. search (rules, tests))
    ∙ some-first kind_goes_on c.args.answers.now
