-- A phase and its number, a head and its numbers: nothing is lost on the way to C and back. Assumes nothing.
use Prim.Native.Nat.{ℕ, zero, suc, ◌≤◌}
use native.Mathlib.Omega.{arith}
use mathlib.Core.Path.{◌≡◌, refl}
use mathlib.Core.Bool.{true}
use mathlib.Core.List.{[], ◌∷◌}
use borrow.Author.Tests.{leb-true}
use Rattle.words.proofs.Logic.{and_left}
use Rattle.points.specs.declared.Phase.{Phase}
use Rattle.points.specs.declared.Phase.TheVariants.{Idle, Filling, RefillFirst, RefillLast, RefillBoth, Zeroing, Reading}
use Rattle.points.specs.declared.Head.{Head}
use Rattle.points.specs.Record.{phase_number, phase_of}
use Rattle.c_lent.specs.Numbers.{head_numbers, head_from, is_known}

pub phase-back : (p : Phase) → phase_of (phase_number p) ≡ p
phase-back Idle = refl
phase-back Filling = refl
phase-back RefillFirst = refl
phase-back RefillLast = refl
phase-back RefillBoth = refl
phase-back Zeroing = refl
phase-back Reading = refl

-- a head that a call hands back is the head that the next call is handed
pub head-back : (h : Head) → head_from (head_numbers h) ≡ h
head-back h = rw (phase-back h.write.phase)

-- and numbers that are a head's stay as they are where a call changes nothing
number-back : (n : ℕ) → n ≤ 6 → phase_number (phase_of n) ≡ n
number-back zero l = refl
number-back (suc zero) l = refl
number-back (suc (suc zero)) l = refl
number-back (suc (suc (suc zero))) l = refl
number-back (suc (suc (suc (suc zero)))) l = refl
number-back (suc (suc (suc (suc (suc zero))))) l = refl
number-back (suc (suc (suc (suc (suc (suc zero)))))) l = refl
number-back (suc (suc (suc (suc (suc (suc (suc n))))))) l = absurd (omega arith)

pub numbers-back :
    (a b c d e f g phase h i j : ℕ) → let xs = a ∷ b ∷ c ∷ d ∷ e ∷ f ∷ g ∷ phase ∷ h ∷ i ∷ j ∷ [] in
    is_known xs ≡ true → head_numbers (head_from xs) ≡ xs
numbers-back a b c d e f g phase h i j known = rw (number-back phase (leb-true phase 6 (and_left _ _ known)))
