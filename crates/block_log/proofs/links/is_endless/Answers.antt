use mathlib.Core.Path.{ap}
use mathlib.Core.Logic.{inl}
use Prim.Native.Nat.{ℕ}
use native.Mathlib.Omega.{arith}
use lib.Dec.{ltb}
use Rattle.std.proofs.lemmas.Iterator.Consumers.{YieldsList-from_first, count_from_yields_List}
use Rattle.words.specs.Edition.{one}
use Rattle.words.specs.Memory.{memory}
use Rattle.block_log.specs.Chain.{first_index, chain_from, endless}
use Rattle.block_log.specs.Links.{links_left}
use Rattle.block_log.proofs.Chain.{chain-length}
use Rattle.block_log.proofs.links.is_endless.Goals as goal

pub count-requires-clause-fits : goal.count-requires-clause-fits
count-requires-clause-fits c = let m = memory one c.args.image.now in
    inl (rw c.chain.ensures (omega (arith, chain-length m 65 (first_index m))))

pub returns : goal.returns
unfolding endless
returns c = let m = memory one c.args.image.now in
    ap (λ (n : ℕ). ltb 64 n) (count_from_yields_List c.chain.result _ c.count.ensures.ran (YieldsList-from_first (λ x. x) links_left {s = c.chain.result} (chain_from m 65 (first_index m)) c.chain.ensures))
