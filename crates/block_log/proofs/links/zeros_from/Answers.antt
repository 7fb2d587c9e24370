use mathlib.Core.Path.{◌∙◌}
use lib.ListN.{drop}
use Rattle.std.proofs.Common.{rules, tests}
use Rattle.std.proofs.lemmas.Iterator.{YieldsList-from_slice}
use Rattle.std.proofs.lemmas.Iterator.Search.{all_from_yields_List}
use Rattle.words.proofs.Pass.{no_word, zeros-all}
use Rattle.block_log.proofs.links.zeros_from.Goals as goal

pub returns : goal.returns
returns c = let a = c.args in
    let xs = drop a.from a.part.now in
    all_from_yields_List no_word _ _ _ c.all.ensures.ran (YieldsList-from_slice xs cc) (λ x b q k. search (rules, tests)) ∙ zeros-all xs
