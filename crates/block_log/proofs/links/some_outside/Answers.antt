use mathlib.Core.Path.{◌∙◌}
use Rattle.std.proofs.Common.{rules, tests}
use Rattle.std.proofs.lemmas.Iterator.Consumers.{YieldsList-from_first}
use Rattle.std.proofs.lemmas.Iterator.Search.{any_from_yields_List}
use Rattle.words.specs.Edition.{one}
use Rattle.words.specs.Memory.{memory}
use Rattle.block_log.specs.Chain.{chain, outside}
use Rattle.block_log.specs.Links.{links_left}
use Rattle.words.proofs.Pass.{some-any}
use Rattle.block_log.proofs.links.some_outside.Goals as goal

pub returns : goal.returns
unfolding chain
returns c = let a = c.args in
    any_from_yields_List (outside a.blocks) c.any.new.self _ _ c.any.ensures.ran (YieldsList-from_first (λ x. x) links_left {s = c.chain.result} (chain (memory one a.image.now)) c.chain.ensures) (λ x b q k. search (rules, tests))
    ∙ some-any (outside a.blocks) (chain (memory one a.image.now))
