use mathlib.Core.Path.{ap, ◌∙◌}
use Prim.Native.Nat.{ℕ, ◌+◌}
use lib.ListN.{drop, length}
use Rattle.std.proofs.Common.{rules, tests}
use Rattle.std.proofs.lemmas.Iterator.{YieldsList-from_slice}
use Rattle.std.proofs.lemmas.Iterator.Consumers.{count_from_yields_List}
use Rattle.std.proofs.lemmas.Iterator.Search.{YieldsList-from_take_while}
use Rattle.words.proofs.Pass.{some_word, words-front}
use Rattle.block_log.proofs.tail.Goals as goal

pub returns : goal.returns
returns c = let a = c.args in
    let xs = drop a.from a.block.now in
    ap (λ (n : ℕ). a.from + n) (count_from_yields_List c.take_while.result _ c.count.ensures.ran
    (YieldsList-from_take_while _ some_word (YieldsList-from_slice xs cc) c.take_while.ensures.closure c.take_while.ensures.done (λ x b q k. search (rules, tests)))
    ∙ ap length (words-front xs))
