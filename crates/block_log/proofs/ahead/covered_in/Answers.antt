use mathlib.Core.Path.{ap, ◌∙◌}
use mathlib.Core.List.{List}
use Prim.Native.Nat.{ℕ}
use lib.ListN.{drop}
use Rattle.std.proofs.Common.{rules, tests}
use Rattle.std.proofs.lemmas.Iterator.{YieldsList-from_slice}
use Rattle.std.proofs.lemmas.Iterator.Search.{any_from_yields_List, YieldsList-from_take_while}
use Rattle.words.specs.Logic.{some_of}
use Rattle.block_log.specs.Entry.{covers}
use Rattle.words.proofs.Pass.{some-any, some_word, words-front}
use Rattle.block_log.proofs.ahead.covered_in.Goals as goal

pub returns : goal.returns
returns c = let a = c.args in
    let xs = drop a.from a.part.now in
    any_from_yields_List (covers a.x) _ _ _ c.any.ensures.ran
    (YieldsList-from_take_while _ some_word (YieldsList-from_slice xs cc) c.take_while.ensures.closure c.take_while.ensures.done (λ x b q k. search (rules, tests))) (λ x b q k. search (rules, tests))
    ∙ some-any (covers a.x) _ ∙ ap (λ (es : List ℕ). some_of (covers a.x) es) (words-front xs)
