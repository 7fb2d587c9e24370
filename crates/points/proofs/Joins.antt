-- Joining: its reasons in their order, and what it answers. Assumes nothing.
use Prim.Native.Nat.{ℕ, zero, suc, ◌<◌}
use native.Mathlib.Omega.{arith}
use mathlib.Core.Path.{◌≡◌, refl, sym, ap}
use mathlib.Core.Bool.{Bool, true, ◌||◌}
use mathlib.Core.List.{List}
use lib.Dec.{leb, eqb}
use borrow.Author.Tests.{ne_eqb, leb-false, ltb-false}
use Rattle.std.specs.Prelude.{Err}
use Rattle.words.specs.Edition.{Edition}
use Rattle.words.specs.Logic.{is_zero}
use Rattle.words.specs.Memory.{Memory, memory}
use Rattle.words.specs.BlockMap.{with_bit}
use Rattle.words.proofs.Logic.{or_right}
use Rattle.words.proofs.Choice.{chosen-zero}
use Rattle.block_log.specs.declared.Shared.{Shared}
use Rattle.block_log.specs.declared.Refusal.{Refusal}
use Rattle.block_log.specs.Refusals.{Done, number as reason-number}
use Rattle.block_log.specs.Chain.{first_index}
use Rattle.points.specs.declared.Point.{Point}
use Rattle.points.specs.Record.{new_point, no_point}
use Rattle.points.specs.Search.{with_joined, reporting}
use Rattle.points.specs.Calls.{bad_first, join_refusal, joining}
use Rattle.points.proofs.NotRefused.{join-number, join_first}
use Rattle.block_log.proofs.Replies.{refused-by}

-- ---- 18

pub first-tests : (blocks : ℕ) (m : Memory) → eqb (first_index m) 0 || leb blocks (first_index m) ≡ bad_first blocks m
first-tests blocks m = ap (λ (t : Bool). t || leb blocks (first_index m)) (zero_test (first_index m))
  where
    zero_test : (n : ℕ) → eqb n 0 ≡ is_zero n
    zero_test zero = refl
    zero_test (suc n) = ne_eqb (suc n) 0 (λ e. omega arith)

-- ---- the answers

module _ (E : Edition) (words : List ℕ) (s : Shared) (number : ℕ) where
  pub join-refused :
      (e : Refusal) (p : Point) → reason-number e ≡ join_refusal E words s number → p ≡ no_point
      → record { reply = Err e; shared = s; point = p } ≡ joining E words s number
  unfolding joining
  join-refused e p h ep = rw ep (refused-by e (join_refusal E words s number) _ (λ x. record { reply = Err x; shared = s; point = no_point }) h)

  module _ (none : join_refusal E words s number ≡ 0) where
    pub join-done :
        (j f : ℕ) (t u : Shared) (p : Point) → j ≡ with_bit true s.joined number → t ≡ with_joined s j → f ≡ first_index (memory E words)
        → u ≡ reporting t number f → p ≡ new_point number f → record { reply = Done; shared = u; point = p } ≡ joining E words s number
    unfolding joining
    join-done j f t u p ej et ef eu ep = rw (ep, eu, et, ej, ef) (sym (chosen-zero (join_refusal E words s number) _ _ none))

    pub join-small : number < 32
    join-small = omega (arith, ltb-false 31 number (join-number E words s number none))

    pub join-inside : first_index (memory E words) < s.blocks
    join-inside = leb-false s.blocks (first_index (memory E words)) (or_right (is_zero (first_index (memory E words))) _ (join_first E words s number none))
