-- 26 and 27: each way out of the tests, and what they leave known.
use mathlib.Core.Path.{◌≡◌, refl, sym}
use mathlib.Core.Bool.{Bool, true, false, ◌&&◌, not}
use mathlib.Core.List.{List, [], ◌∷◌}
use Prim.Native.Nat.{ℕ, ◌≤◌}
use lib.ListN.{length}
use lib.Dec.{eqb}
use borrow.Author.Tests.{leb-true, eqb-true, not-false}
use Rattle.words.specs.Logic.{list_from, every, ◌when◌}
use Rattle.words.proofs.Logic.{every-all}
use Rattle.words.proofs.Tests.{passes}
use Rattle.points.specs.Serving.{twice}
use Rattle.c_lent.specs.Serving.{number_at, start_at, one_for_each, serve_reason}

-- six tests, one after the other
pub six : (a b c d e f : Bool) → (((((a && b) && c) && d) && e) && f) ≡ every (a ∷ b ∷ c ∷ d ∷ e ∷ f ∷ [])
unfolding every
six false b c d e f = refl
six true false c d e f = refl
six true true false d e f = refl
six true true true false e f = refl
six true true true true false f = refl
six true true true true true false = refl
six true true true true true true = refl

module _ (heads : List (List ℕ)) (tables texts : ℕ) (writes : List (List ℕ)) (answers bytes : ℕ) where
  abbrev each : Bool
  each = one_for_each (length heads) tables texts (length writes) answers

  abbrev whole : Bool
  whole = eqb (start_at writes (length writes)) bytes

  abbrev same : Bool
  same = twice (list_from 0 (length heads) (number_at heads))

  pub not-each : each ≡ false → 26 ≡ serve_reason heads tables texts writes answers bytes
  unfolding serve_reason
  not-each e = rw e

  pub not-whole : each ≡ true → whole ≡ false → 26 ≡ serve_reason heads tables texts writes answers bytes
  unfolding serve_reason
  not-whole e f = rw (e, f)

  pub two-same : each ≡ true → whole ≡ true → same ≡ true → 27 ≡ serve_reason heads tables texts writes answers bytes
  unfolding serve_reason
  two-same e f g = rw (e, f, g)

  pub no_reason : each ≡ true → whole ≡ true → same ≡ false → 0 ≡ serve_reason heads tables texts writes answers bytes
  unfolding serve_reason
  no_reason e f g = rw (e, f, g)

-- what is lent where neither holds: n of each
pub record Each (n : ℕ) (heads tables texts answers writes : List (List ℕ)) (bytes : List ℕ) : Type 0 where
  pub least : 1 ≤ n
  pub most : n ≤ 32
  pub tables-are : length tables ≡ n
  pub texts-are : length texts ≡ n
  pub answers_are : length answers ≡ n
  pub writes_are : length writes ≡ n
  pub bytes_are : start_at writes n ≡ length bytes

pub is-each : (heads tables texts answers writes : List (List ℕ)) (bytes : List ℕ)
    → 0 ≡ serve_reason heads (length tables) (length texts) writes (length answers) (length bytes)
    → Each (length heads) heads tables texts answers writes bytes
unfolding serve_reason one_for_each
is-each heads tables texts answers writes bytes e =
    let rs = 26 when not (one_for_each (length heads) (length tables) (length texts) (length writes) (length answers))
    ∷ 26 when not (eqb (start_at writes (length writes)) (length bytes)) ∷ 27 when twice (list_from 0 (length heads) (number_at heads)) ∷ [] in
    let ts = every-all _ (not-false _ (passes rs refl (sym e) 0)) in
    let w : length writes ≡ length heads = eqb-true _ _ ts.1.1.1.1.0 in
    record {
      least = leb-true _ _ ts.0;
      most = leb-true _ _ ts.1.0;
      tables-are = eqb-true _ _ ts.1.1.0;
      texts-are = eqb-true _ _ ts.1.1.1.0;
      answers_are = eqb-true _ _ ts.1.1.1.1.1.0;
      writes_are = w;
      bytes_are = rw w at (eqb-true (start_at writes (length writes)) (length bytes) (not-false _ (passes rs refl (sym e) 1)));
    }
