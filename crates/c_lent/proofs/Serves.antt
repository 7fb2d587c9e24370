-- The serving call: refused, or the row, in the lists that are lent.
use mathlib.Core.Path.{◌≡◌, refl, sym, ap, ◌∙◌}
use mathlib.Core.List.{List, [], map}
use Prim.Native.Nat.{ℕ, zero, suc}
use lib.ListN.{length, get_or}
use Rattle.words.specs.Edition.{one}
use Rattle.words.specs.Logic.{list_from}
use Rattle.points.specs.Serving.{Turned, in_turn, rounds, row, serve_rounds}
use Rattle.c_lent.specs.Batch.{Lengths}
use Rattle.c_lent.specs.Serving.{CommonLent, ListedLent, turn_left, listed, listed_at, asking, begin_turn_for, step_turn_for}
use Rattle.c_lent.specs.Serving.{serve_reason, serve_left, lists_of, serve_for}
use Rattle.c_lent.proofs.Places.{whole-list, map-list}

-- the lists of the points that these lists have
lists_back : (n : ℕ) (c : CommonLent) (heads tables texts answers : List (List ℕ)) → Lengths n heads tables texts answers
    → lists_of c (list_from 0 n (listed_at heads tables texts answers)) ≡ serve_left 0 c heads tables texts answers
lists_back n c heads tables texts answers l =
    let f = listed_at heads tables texts answers in
    let h = field heads (λ x. x.point.head) l.0 (map-list (λ (x : ListedLent). x.point.head) 0 n f) in
    let t = field tables (λ x. x.point.table) l.1 (map-list (λ (x : ListedLent). x.point.table) 0 n f) in
    let x = field texts (λ x. x.point.text) l.2 (map-list (λ (x : ListedLent). x.point.text) 0 n f) in
    let a = field answers (λ x. x.answer) l.3 (map-list (λ (x : ListedLent). x.answer) 0 n f) in
    λ i. serve_left 0 c (h i) (t i) (x i) (a i)
  where
    field : (xs : List (List ℕ)) (g : ListedLent → List ℕ) → length xs ≡ n
        → map g (list_from 0 n (listed_at heads tables texts answers)) ≡ list_from 0 n (λ i. get_or xs i [])
        → map g (list_from 0 n (listed_at heads tables texts answers)) ≡ xs
    field xs g e m = m ∙ ap (λ (k : ℕ). list_from 0 k (λ i. get_or xs i [])) (sym e) ∙ whole-list [] xs

module _ (c : CommonLent) (heads tables texts answers writes : List (List ℕ)) (bytes : List ℕ) where
  abbrev why : ℕ
  why = serve_reason heads (length tables) (length texts) writes (length answers) (length bytes)

  abbrev served : Turned CommonLent (List ListedLent)
  served = row begin_turn_for step_turn_for (serve_rounds one (length heads)) c (asking heads tables texts writes bytes)

  by-reason : (n : ℕ) → why ≡ n
      → serve_for c heads tables texts answers writes bytes
      ≡ elim n [ zero ↦ lists_of served.common served.own | suc k ↦ serve_left (suc k) c heads tables texts answers ]
  unfolding serve_for
  by-reason n e = ap (λ (m : ℕ). elim m [ zero ↦ lists_of served.common served.own | suc k ↦ serve_left (suc k) c heads tables texts answers ]) e

  -- nothing is begun
  pub serve-refused : (n : ℕ) → n ≡ why → (n ≡ 0 → ⊥) → serve_left n c heads tables texts answers ≡ serve_for c heads tables texts answers writes bytes
  serve-refused zero e h = absurd (h refl)
  serve-refused (suc n) e h = sym (by-reason (suc n) (sym e))

  -- all writes are begun, and the rounds are over
  pub serve-done : (c1 c2 : CommonLent) (h1 t1 x1 a1 h2 t2 x2 a2 : List (List ℕ)) (most : ℕ) → 0 ≡ why → length h1 ≡ length heads
      → most ≡ serve_rounds one (length h1) → Lengths (length h2) h2 t2 x2 a2
      → turn_left c1 (listed h1 t1 x1 a1) ≡ in_turn begin_turn_for c (asking heads tables texts writes bytes)
      → turn_left c2 (listed h2 t2 x2 a2) ≡ rounds most step_turn_for c1 (listed h1 t1 x1 a1)
      → serve_left 0 c2 h2 t2 x2 a2 ≡ serve_for c heads tables texts answers writes bytes
  unfolding row
  serve-done c1 c2 h1 t1 x1 a1 h2 t2 x2 a2 most e n q l b r =
      let whole : turn_left c2 (listed h2 t2 x2 a2) ≡ served =
      r ∙ ap (λ (k : ℕ). rounds k step_turn_for c1 (listed h1 t1 x1 a1)) (q ∙ ap (serve_rounds one) n)
      ∙ ap (λ (z : Turned CommonLent (List ListedLent)). rounds (serve_rounds one (length heads)) step_turn_for z.common z.own) b in
      sym (lists_back (length h2) c2 h2 t2 x2 a2 l) ∙ ap (λ (z : Turned CommonLent (List ListedLent)). lists_of z.common z.own) whole
      ∙ sym (by-reason 0 (sym e))
