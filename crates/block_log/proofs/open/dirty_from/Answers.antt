use mathlib.Core.Path.{ap, ◌∙◌, refl}
use mathlib.Core.Bool.{Bool, not}
use mathlib.Core.List.{List}
use Prim.Native.Nat.{ℕ, ◌-◌}
use Rattle.std.proofs.Common.{rules, tests}
use Rattle.std.proofs.lemmas.Iterator.{YieldsList-from_range}
use Rattle.std.proofs.lemmas.Iterator.Search.{any_from_yields_List}
use Rattle.words.specs.Logic.{some_of, is_zero}
use Rattle.words.specs.Memory.{byte_in}
use Rattle.words.proofs.Pass.{some-any, some-same, zero-tests, some_word, range-up}
use Rattle.block_log.proofs.open.dirty_from.Goals as goal

pub returns : goal.returns
returns c = let a = c.args in
    let some : ℕ → Bool = λ k. some_word (byte_in a.part.now k) in
    any_from_yields_List some _ _ _ c.any.ensures.ran (YieldsList-from_range a.from 512 (512 - a.from) refl refl) (λ x b q k. search (rules, tests))
    ∙ some-any some _ ∙ ap (λ (ks : List ℕ). some_of some ks) (range-up a.from (512 - a.from)) ∙ some-same some (λ k. not (is_zero (byte_in a.part.now k))) _ (λ k. ap not (zero-tests (byte_in a.part.now k)))
