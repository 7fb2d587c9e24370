use mathlib.Core.Path.{◌≡◌, refl}
use mathlib.Core.Bool.{Bool, true, false, ◌&&◌}
use Prim.Native.Nat.{ℕ, ◌+◌}
use native.Mathlib.Omega.{arith}
use lib.Dec.{leb, eqb}
use Rattle.words.specs.Edition.{one}
use Rattle.words.specs.Logic.{every}
use Rattle.block_log.specs.Entry.{entry_v, entry_b, entry_n, entry_u, entry_rest, legal}
use Rattle.block_log.proofs.is_legal.Goals as goal

-- the tests as the code groups them, and one after the other
regroup : (a b c d z i j k : Bool) → (((((a && b) && c) && d) && z) && ((i && j) && k)) ≡ (a && (b && (c && (d && (z && (i && (j && (k && true))))))))
regroup false b c d z i j k = refl
regroup true false c d z i j k = refl
regroup true true false d z i j k = refl
regroup true true true false z i j k = refl
regroup true true true true false i j k = refl
regroup true true true true true false j k = refl
regroup true true true true true true false k = refl
regroup true true true true true true true false = refl
regroup true true true true true true true true = refl

pub overflow_add-inside : goal.overflow_add-inside
unfolding entry_n
overflow_add-inside c = record { fits = omega (arith, c.count-n.ensures, c.first_virtual.ensures.1) }

pub overflow_add-inside-2 : goal.overflow_add-inside-2
unfolding entry_n
overflow_add-inside-2 c = record { fits = omega (arith, c.count-n.ensures, c.first_block-b.ensures.1) }

grouped : (blocks e : ℕ)
    → (((((leb 1 (entry_n e) && leb (entry_n e) 64) && leb 1 (entry_u one e)) && leb (entry_u one e) 512) && eqb (entry_rest one e) 0)
    && ((leb (entry_v e + entry_n e) 256 && leb 1 (entry_b e)) && leb (entry_b e + entry_n e) blocks)) ≡ legal one blocks e
unfolding legal every
grouped blocks e =
    regroup (leb 1 (entry_n e)) (leb (entry_n e) 64) (leb 1 (entry_u one e)) (leb (entry_u one e) 512) (eqb (entry_rest one e) 0)
    (leb (entry_v e + entry_n e) 256) (leb 1 (entry_b e)) (leb (entry_b e + entry_n e) blocks)

pub returns : goal.returns
returns c = let a = c.args in
    rw (c.first_virtual.ensures.0, c.first_block-b.ensures.0, c.count-n.ensures, c.used-u.ensures, c.rest.ensures) (grouped a.blocks a.e)
