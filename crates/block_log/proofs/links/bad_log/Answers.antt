use mathlib.Core.Path.{◌∙◌}
use mathlib.Core.Bool.{Bool}
use Prim.Native.Nat.{ℕ}
use Rattle.std.proofs.Common.{rules, tests}
use Rattle.std.proofs.lemmas.Iterator.Consumers.{YieldsList-from_first}
use Rattle.std.proofs.lemmas.Iterator.Search.{any_from_yields_List}
use Rattle.words.specs.Edition.{one}
use Rattle.words.specs.Memory.{memory, block_at}
use Rattle.block_log.specs.Chain.{chain, bad_log_block, bad_log}
use Rattle.block_log.specs.Links.{links_left}
use Rattle.words.proofs.Pass.{some-any}
use Rattle.block_log.proofs.links.bad_log.Goals as goal

pub returns : goal.returns
unfolding chain bad_log
returns c = let m = memory one c.args.image.now in
    let bad : ℕ → Bool = λ b. bad_log_block (block_at m b) in
    any_from_yields_List bad c.any.new.self _ _ c.any.ensures.ran (YieldsList-from_first (λ x. x) links_left {s = c.chain.result} (chain m) c.chain.ensures) (λ x b q k. search (rules, tests))
    ∙ some-any bad (chain m)
