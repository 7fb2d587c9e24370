-- For the contracts of `links`: what a pass over the chain has left to give.
use Rattle.std.specs.Prelude.{ℕ, List}
use Rattle.words.specs.Edition.{one}
use Rattle.words.specs.Memory.{memory}
use Rattle.block_log.specs.declared.links.Links.{Links}
use Rattle.block_log.specs.Chain.{chain_from}

abbrev pub links_left : Links → List ℕ
links_left s = chain_from (memory one s.image.now) s.left s.index
