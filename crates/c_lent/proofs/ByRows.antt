-- Rounds by rows: what the rows leave of the image is what rounds of steps leave, and each point whose write goes on is so many words on.
use mathlib.Core.Path.{◌≡◌, refl, sym, ap, ◌∙◌, subst}
use mathlib.Core.Logic.{inl, inr}
use mathlib.Core.Bool.{Bool, true, false}
use mathlib.Core.List.{List, [], ◌∷◌}
use Prim.Native.Nat.{ℕ, zero, suc, ◌+◌, ◌*◌, ◌-◌, ◌/◌, ◌≤◌, ◌<◌}
use native.Mathlib.Omega.{arith}
use native.Mathlib.Decide.{ℕ_discrete}
use lib.ListN.{length, get_or, set}
use lib.Dec.{eqb}
use borrow.Author.Tests.{eq-eqb, ne_eqb}
use Rattle.words.specs.Edition.{one}
use Rattle.words.specs.Logic.{list_from}
use Rattle.words.specs.Memory.{put}
use Rattle.words.proofs.Choice.{choose-true, choose-false}
use Rattle.points.specs.declared.Phase.TheVariants.{Zeroing}
use Rattle.points.specs.declared.Point.{Point}
use Rattle.points.specs.declared.serve.Row.{Row}
use Rattle.points.specs.declared.serve.Due.{Due}
use Rattle.std.specs.Prelude.{Option, Some, None}
use Rattle.points.specs.Record.{is_zeroing, run_first, run_words}
use Rattle.points.specs.Serving.{rounds}
use Rattle.points.specs.Batch.{row_of, row_stored, round_stored, rounds_stored, RowHolds, RowsFit}
use Rattle.points.proofs.RecordFacts.{table-inside}
use Rattle.points.proofs.Ready.{Ready, tests, ready-run, ready-zeroing, ready-text}
use Rattle.points.proofs.Rows.{few_words, in_row, stored-off, stored-filled, stored-zero}
use Rattle.c_lent.specs.Numbers.{SharedLent, PointLent, shared_in, lend_point}
use Rattle.c_lent.specs.Serving.{CommonLent, ListedLent, common_lent, listed_lent, point_as, turn_left, listed, listed_at, kind_goes_on, step_turn_for}
use Rattle.c_lent.specs.Batch.{ReadyAt, AllReady, PlainAt, Plain, RowFor, RowOn, RowIs, one_on, words_on, NextWords, StoresNext, Lengths}
use Rattle.c_lent.proofs.Places.{same-list}
use Rattle.c_lent.proofs.Turns.{rounds-next, rounds-over}
use Rattle.c_lent.proofs.ReadyAt.{is-ready}
use Rattle.c_lent.proofs.Plain.{phase-is, one_on_lem, none-on, plain-turned, next_small, plain-none}
use Rattle.c_lent.proofs.PlainRounds.{Passed, passed_start, passed-next, passed-end, next-fewer, next_one, kept_same, kept-other}
use Rattle.c_lent.proofs.WordsLeft.{GoesAt, row_made}

-- ---- a row and its point

abbrev pub Goes : ListedLent → Type 0
Goes x = kind_goes_on (get_or x.answer 0 0) ≡ true

-- by the row go the point's next m words, the first of which is word r after the row's
pub record Follows (r m : ℕ) (row : Due) (x : ListedLent) : Type 0 where
  pub words : NextWords m row x
  pub next : get_or x.point.head 8 0 ≡ row.next + r
  pub zeroes :
      get_or x.point.head 7 0 ≡ 5
      → (row.row.run ≡ get_or x.point.head 9 0) × (row.row.from ≡ 0) × (row.row.lead ≡ 4096) × (row.row.end ≡ 4096)

-- where its write goes on; otherwise there is no row
pub record Served (r m : ℕ) (row : Option Due) (text : List ℕ) (x : ListedLent) : Type 0 where
  pub on : Goes x → (d : Due) × (row ≡ Some d) × Follows r m d x
  pub off : kind_goes_on (get_or x.answer 0 0) ≡ false → row ≡ None
  pub same : x.point.text ≡ text

stores : {c : CommonLent} {x : ListedLent} → ReadyAt c x → Goes x → (r m : ℕ) (row : Due) (some : Option Due) → some ≡ Some row → 0 < m → Follows r m row x
    → StoresNext c.image row (get_or x.point.head 7 0) (get_or x.point.head 9 0) (get_or x.point.head 8 0) x.point.text
    (row_stored r some x.point.text c.image)
stores {c} {x} d g r m row some on l w =
    let k = get_or x.point.head 8 0 in
    let small = next_small d g (next_one m row x l w.words) in
    record {
      zeroed = λ e.
          let z = w.zeroes e in
          stored-zero r k row some x.point.text c.image on w.next z.1 (omega (arith, z.2, small))
          ∙ ap (λ (b : ℕ). put one c.image (record { block = b; word = k; value = 0 })) z.0;
      filled = λ e h table p. stored-filled r k row some x.point.text c.image h table on w.next p;
    }

-- what the row leaves is what the point's turn leaves
turned : {c : CommonLent} {x : ListedLent} (r m : ℕ) (row : Option Due) (text : List ℕ) → 0 < m → Served r m row text x → (Goes x → ReadyAt c x)
    → turn_left (common_lent (row_stored r row text c.image) c.shared) (one_on x) ≡ step_turn_for c x
turned {c} {x} r m row text l s d = go (kind_goes_on (get_or x.answer 0 0)) refl
  where
    go : (b : Bool) → kind_goes_on (get_or x.answer 0 0) ≡ b
        → turn_left (common_lent (row_stored r row text c.image) c.shared) (one_on x) ≡ step_turn_for c x
    go true g =
        let w = s.on g in
        ap (λ (t : List ℕ). turn_left (common_lent (row_stored r row t c.image) c.shared) (one_on x)) (sym s.same)
        ∙ plain-turned (d g) g (next_one m w.0 x l w.2.words) _ (stores (d g) g r m w.0 row w.1 l w.2)
    go false g =
        ap (λ (i : List ℕ). turn_left (common_lent i c.shared) (one_on x)) (stored-off r row text c.image (s.off g))
        ∙ plain-none c.image c.shared x g

-- ---- one word on

goes_same : (x : ListedLent) → kind_goes_on (get_or (one_on x).answer 0 0) ≡ kind_goes_on (get_or x.answer 0 0)
goes_same x = go (kind_goes_on (get_or x.answer 0 0)) refl
  where
    go : (b : Bool) → kind_goes_on (get_or x.answer 0 0) ≡ b → kind_goes_on (get_or (one_on x).answer 0 0) ≡ kind_goes_on (get_or x.answer 0 0)
    go true g = ap (λ (y : ListedLent). kind_goes_on (get_or y.answer 0 0)) (one_on_lem x.point x.answer g) ∙ sym g
    go false g = ap (λ (y : ListedLent). kind_goes_on (get_or y.answer 0 0)) (none-on x g)

text_same : (x : ListedLent) → (one_on x).point.text ≡ x.point.text
text_same x = go (kind_goes_on (get_or x.answer 0 0)) refl
  where
    go : (b : Bool) → kind_goes_on (get_or x.answer 0 0) ≡ b → (one_on x).point.text ≡ x.point.text
    go true g = ap (λ (y : ListedLent). y.point.text) (one_on_lem x.point x.answer g)
    go false g = ap (λ (y : ListedLent). y.point.text) (none-on x g)

follows-own : (r m : ℕ) (row : Due) (a : List ℕ) (p : Point) → kind_goes_on (get_or a 0 0) ≡ true → NextWords (m - 1) row (one_on (listed_lent (lend_point p) a))
    → Follows r m row (listed_lent (lend_point p) a) → Follows (r + 1) (m - 1) row (one_on (listed_lent (lend_point p) a))
follows-own r m row a p g fewer w =
    let e = one_on_lem (lend_point p) a g in
    let k : p.head.write.position ≡ row.next + r = w.next in
    let n : p.head.write.position + 1 ≡ row.next + (r + 1) = omega (arith, k) in
    record {
      words = fewer;
      next = ap (λ (x : ListedLent). get_or x.point.head 8 0) e ∙ n;
      zeroes = λ q.
          let z = w.zeroes (sym (ap (λ (x : ListedLent). get_or x.point.head 7 0) e) ∙ q) in
          (z.0 ∙ sym (ap (λ (x : ListedLent). get_or x.point.head 9 0) e), z.1, z.2, z.3);
    }

follows_next : {c : CommonLent} {x : ListedLent} → ReadyAt c x → (r m : ℕ) (row : Due) → 0 < m → Goes x → Follows r m row x
    → Follows (r + 1) (m - 1) row (one_on x)
follows_next {c} {x} d r m row l g w =
    subst (λ (y : PointLent). NextWords (m - 1) row (one_on (listed_lent y x.answer)) → Follows r m row (listed_lent y x.answer)
    → Follows (r + 1) (m - 1) row (one_on (listed_lent y x.answer))) (sym d.is)
    (follows-own r m row x.answer d.point g) (next-fewer d m row l g w.words) w

served-next : {c : CommonLent} {x : ListedLent} (r m : ℕ) (row : Option Due) (text : List ℕ) → 0 < m → Served r m row text x → (Goes x → ReadyAt c x)
    → Served (r + 1) (m - 1) row text (one_on x)
served-next {c} {x} r m row text l s d =
    record {
      on = λ g. let g' = sym (goes_same x) ∙ g in let w = s.on g' in (w.0, w.1, follows_next (d g') r m w.0 l g' w.2);
      off = λ g. s.off (sym (goes_same x) ∙ g);
      same = text_same x ∙ s.same;
    }

-- ---- before the first

pub follows-start : {c : CommonLent} {x : ListedLent} → ReadyAt c x → (m : ℕ) (row : Due) → Plain m x → RowOn row x.point.head x.point.table
    → Follows 0 m row x
follows-start {c} {x} d m row p o =
    let n = o.next in
    record { words = record { plain = p; row_is = go p }; next = omega (arith, n); zeroes = o.zeroes }
  where
    go : Plain m x → RowFor m row x
    go (inl f) = row_made d m row (inl f) (o.fills (λ q. absurd (omega (arith, f.0, q))))
    go (inr z) = λ e j l. absurd (omega (arith, z.0, e))

-- ---- the rows fit

holds-own : (words : List ℕ) (s : SharedLent) (p : Point) (a : List ℕ) (row : Due) (m : ℕ) → Ready one words (shared_in s) p → 0 < m
    → Follows 0 m row (listed_lent (lend_point p) a)
    → RowHolds (length words) row m
holds-own words s p a row m r l w = go w.words.plain
  where
    next : p.head.write.position ≡ row.next
    next = let n : p.head.write.position ≡ row.next + 0 = w.next in omega (arith, n)

    size : 64 * (shared_in s).blocks ≡ length words
    size = (tests r).shared.whole

    go : Plain m (listed_lent (lend_point p) a)
        → RowHolds (length words) row m
    go (inl f) =
        let t = tests r in
        let far : p.head.write.position + m ≤ run_words one p.head.write = f.2 in
        let zero' : p.head.write.position + 0 ≡ p.head.write.position = omega arith in
        let is : row.row ≡ row_of one p.head p.table p.head.write.position = rw zero' at (w.words.row_is f.0 0 l) in
        let inside = in_row row.row p.head p.table p.head.write.position (is, (ready-text r, omega (arith, far))) in
        let to : row.row.run ≡ p.head.write.run = ap (λ (x : Row). x.run) is in
        let v = run_first one p.head.write + p.head.write.position / one.block_words in
        let from : row.row.from ≡ get_or p.table v 0 = ap (λ (x : Row). x.from) is in
        let some : 4 ≤ (shared_in s).blocks = t.shared.some-blocks in
        let below : get_or p.table v 0 < (shared_in s).blocks = table-inside (shared_in s).blocks p.table (omega (arith, some)) t.file.table v in
        let run : p.head.write.run ≤ (shared_in s).blocks = omega (arith, (ready-run r).run_inside) in
        (inside.0, omega (arith, next, far, few_words p.head (ready-text r)), omega (arith, to, run, size), omega (arith, from, below, size))
    go (inr z) =
        let ph : p.head.write.phase ≡ Zeroing = phase-is _ 5 z.0 in
        let near : p.head.write.position + m ≤ 64 = z.1 in
        let zr = w.zeroes z.0 in
        let to : row.row.run ≡ p.head.write.zeroing = zr.0 in
        let some : 4 ≤ (shared_in s).blocks = (tests r).shared.some-blocks in
        let zeroing : p.head.write.zeroing < (shared_in s).blocks = (ready-zeroing r (ap is_zeroing ph)).zeroing-inside in
        (omega (arith, zr.2, zr.3), omega (arith, next, near), omega (arith, to, zeroing, size), omega (arith, zr.1, some, size))

pub row-holds : {c : CommonLent} {x : ListedLent} → ReadyAt c x → (m : ℕ) (row : Due) → 0 < m → Follows 0 m row x
    → RowHolds (length c.image) row m
row-holds {c} {x} d m row l =
    subst (λ (y : PointLent). Follows 0 m row (listed_lent y x.answer)
    → RowHolds (length c.image) row m) (sym d.is)
    (holds-own c.image c.shared d.point x.answer row m (is-ready d) l)

-- ---- all of them

-- the first i are one word on
abbrev pub up_to : ℕ → (ℕ → ListedLent) → ℕ → ListedLent
up_to zero f j = f j
up_to (suc i) f j = elim (eqb j i) [ true ↦ one_on (f j) | false ↦ up_to i f j ]

-- r words on
abbrev pub on_by : ℕ → ListedLent → ListedLent
on_by zero x = x
on_by (suc r) x = one_on (on_by r x)

abbrev pub AllServed : ℕ → ℕ → List (Option Due) → List (List ℕ) → ℕ → (ℕ → ListedLent) → Type 0
AllServed r m rows texts n f = (i : ℕ) → i < n → Served r m (get_or rows i None) (get_or texts i []) (f i)

module _ (s : SharedLent) (rows : List (Option Due)) (texts : List (List ℕ)) (n : ℕ) where
  round-passed : (words : List ℕ) (r m : ℕ) (f : ℕ → ListedLent) → 0 < m → AllReady (common_lent words s) n f → AllServed r m rows texts n f → (i : ℕ) → i ≤ n
      → Passed (common_lent words s) f n i (common_lent (round_stored r i rows texts words) s) (up_to i f)
  unfolding round_stored
  round-passed words r m f some ready served zero l = passed_start (common_lent words s) f n ready
  round-passed words r m f some ready served (suc i) l =
      let p = round-passed words r m f some ready served i (omega arith) in
      let same : up_to i f i ≡ f i = p.later i (omega arith) in
      let sv = subst (Served r m (get_or rows i None) (get_or texts i [])) (sym same) (served i (omega arith)) in
      let c' = common_lent (row_stored r (get_or rows i None) (get_or texts i []) (round_stored r i rows texts words)) s in
      let up : i + 1 ≡ suc i = omega arith in
      subst (λ (k : ℕ). Passed (common_lent words s) f n k c' (up_to (suc i) f)) up
      (passed-next p (omega arith) c' (up_to (suc i) f)
      (turned r m (get_or rows i None) (get_or texts i []) some sv (λ g. p.ready i (omega arith) g))
      (choose-true (eqb i i) _ _ (eq-eqb i i refl) ∙ ap one_on (sym same))
      (λ j d. choose-false (eqb j i) _ _ (ne_eqb j i d)))

  module _ (words : List ℕ) (m : ℕ) (f : ℕ → ListedLent) (ready : AllReady (common_lent words s) n f) (served : AllServed 0 m rows texts n f) where
    abbrev pub on : ℕ → ℕ → ListedLent
    on r j = on_by r (f j)

    abbrev pub left : ℕ → CommonLent
    left r = common_lent (rounds_stored r n rows texts words) s

    -- r rounds are over
    pub record Gone (r : ℕ) : Type 0 where
      pub reached : rounds m step_turn_for (common_lent words s) (list_from 0 n f) ≡ rounds (m - r) step_turn_for (left r) (list_from 0 n (on r))
      pub all-ready : AllReady (left r) n (on r)
      pub all-served : AllServed r (m - r) rows texts n (on r)

    pub gone : (r : ℕ) → r ≤ m → Gone r
    unfolding rounds_stored
    gone zero l =
        let e : m - 0 ≡ m = omega arith in
        record {
          reached = ap (λ (k : ℕ). rounds k step_turn_for (common_lent words s) (list_from 0 n f)) (sym e);
          all-ready = ready;
          all-served = λ i k. subst (λ (j : ℕ). Served 0 j (get_or rows i None) (get_or texts i []) (f i)) (sym e) (served i k);
        }
    gone (suc r) l =
        let p = gone r (omega arith) in
        let some : 0 < m - r = omega arith in
        let fewer : m - r - 1 ≡ m - suc r = omega arith in
        let up : r + 1 ≡ suc r = omega arith in
        let d = round-passed (rounds_stored r n rows texts words) r (m - r) (on r) some p.all-ready p.all-served n (omega arith) in
        let e = passed-end d (omega arith) (omega arith) in
        let list : list_from 0 n (on (suc r)) ≡ list_from 0 n (up_to n (on r)) =
        same-list 0 n (on (suc r)) (up_to n (on r)) (λ j a b. sym (e.1 j (omega arith))) in
        record {
          reached = p.reached ∙ rounds-next (m - r) (left r) (left (suc r)) (list_from 0 n (on r)) (list_from 0 n (on (suc r))) some
              (ap (turn_left (left (suc r))) list ∙ e.0)
              ∙ ap (λ (k : ℕ). rounds k step_turn_for (left (suc r)) (list_from 0 n (on (suc r)))) fewer;
          all-ready = λ j k g. subst (ReadyAt (left (suc r))) (e.1 j k)
              (e.2 j k (subst Goes (sym (e.1 j k)) g));
          all-served = λ j k. subst (λ (i : ℕ). Served i (m - suc r) (get_or rows j None) (get_or texts j []) (on (suc r) j)) up
              (subst (λ (i : ℕ). Served (r + 1) i (get_or rows j None) (get_or texts j []) (on (suc r) j)) fewer
              (served-next {c = left r} r (m - r) (get_or rows j None) (get_or texts j []) some (p.all-served j k) (λ g. p.all-ready j k g)));
        }

-- ---- where a point is then

on-own : (p : Point) (a : List ℕ) → kind_goes_on (get_or a 0 0) ≡ true → (m : ℕ) → on_by (suc m) (listed_lent (lend_point p) a)
    ≡ listed_lent (point_as (set (lend_point p).head 8 (p.head.write.position + suc m)) p.table p.text) (1 ∷ 0 ∷ [])
on-own p a g zero = one_on_lem (lend_point p) a g
on-own p a g (suc m) =
    let k = p.head.write.position in
    let up : k + suc m + 1 ≡ k + suc (suc m) = omega arith in
    ap one_on (on-own p a g m) ∙ one_on_lem (point_as (set (lend_point p).head 8 (k + suc m)) p.table p.text) (1 ∷ 0 ∷ []) refl
    ∙ ap (λ (n : ℕ). listed_lent (point_as (set (lend_point p).head 8 n) p.table p.text) (1 ∷ 0 ∷ [])) up

pub on-by : {c : CommonLent} {x : ListedLent} → ReadyAt c x → Goes x → (m : ℕ) → 0 < m
    → on_by m x ≡ listed_lent (point_as (set x.point.head 8 (get_or x.point.head 8 0 + m)) x.point.table x.point.text) (1 ∷ 0 ∷ [])
on-by {c} {x} d g zero l = absurd (omega arith)
on-by {c} {x} d g (suc m) l =
    subst (λ (y : PointLent). on_by (suc m) (listed_lent y x.answer)
    ≡ listed_lent (point_as (set y.head 8 (get_or y.head 8 0 + suc m)) y.table y.text) (1 ∷ 0 ∷ [])) (sym d.is)
    (on-own d.point x.answer g m)

pub on_none : (x : ListedLent) → kind_goes_on (get_or x.answer 0 0) ≡ false → (m : ℕ) → on_by m x ≡ x
on_none x g zero = refl
on_none x g (suc m) = ap one_on (on_none x g m) ∙ none-on x g

pub words-on : (m : ℕ) (p : PointLent) (a : List ℕ) → kind_goes_on (get_or a 0 0) ≡ true
    → words_on m (listed_lent p a) ≡ listed_lent (point_as (set p.head 8 (get_or p.head 8 0 + m)) p.table p.text) (1 ∷ 0 ∷ [])
unfolding words_on
words-on m p a g = choose-true (kind_goes_on (get_or a 0 0)) _ _ g

pub words-none : (m : ℕ) (x : ListedLent) → kind_goes_on (get_or x.answer 0 0) ≡ false → words_on m x ≡ x
unfolding words_on
words-none m x g = choose-false (kind_goes_on (get_or x.answer 0 0)) _ _ g

on-words : {c : CommonLent} {x : ListedLent} → (Goes x → ReadyAt c x) → (m : ℕ) → 0 < m → on_by m x ≡ words_on m x
on-words {c} {x} d m l = go (kind_goes_on (get_or x.answer 0 0)) refl
  where
    go : (b : Bool) → kind_goes_on (get_or x.answer 0 0) ≡ b → on_by m x ≡ words_on m x
    go true g = on-by (d g) g m l ∙ sym (words-on m x.point x.answer g)
    go false g = on_none x g m ∙ sym (words-none m x g)

-- the first i points are so many words on, the others as they were
pub record AreOn (m : ℕ) (heads₀ answers₀ : List (List ℕ)) (i : ℕ) (heads answers : List (List ℕ)) : Type 0 where
  pub done : (tables texts : List (List ℕ)) (j : ℕ) → j < i → listed_at heads tables texts answers j ≡ words_on m (listed_at heads₀ tables texts answers₀ j)
  pub later : (tables texts : List (List ℕ)) (j : ℕ) → i ≤ j → listed_at heads tables texts answers j ≡ listed_at heads₀ tables texts answers₀ j

pub are-next : (m : ℕ) (heads₀ answers₀ heads answers : List (List ℕ)) (h a : List ℕ) (i : ℕ) → i < length heads → i < length answers
    → AreOn m heads₀ answers₀ i heads answers
    → ((table text : List ℕ) → listed_lent (point_as h table text) a ≡ words_on m (listed_lent (point_as (get_or heads i []) table text) (get_or answers i [])))
    → AreOn m heads₀ answers₀ (i + 1) (set heads i h) (set answers i a)
are-next m heads₀ answers₀ heads answers h a i lh la p e =
    record {
      done = λ tables texts j l. at tables texts j l (ℕ_discrete j i);
      later = λ tables texts j l. kept-other heads tables texts answers h a i j (λ q. absurd (omega arith)) ∙ p.later tables texts j (omega arith);
    }
  where
    at : (tables texts : List (List ℕ)) (j : ℕ) → j < i + 1 → Dec (j ≡ i)
        → listed_at (set heads i h) tables texts (set answers i a) j ≡ words_on m (listed_at heads₀ tables texts answers₀ j)
    at tables texts j l (yes q) =
        subst (λ (k : ℕ). listed_at (set heads i h) tables texts (set answers i a) k ≡ words_on m (listed_at heads₀ tables texts answers₀ k)) (sym q)
        (kept_same heads tables texts answers h a i lh la ∙ e (get_or tables i []) (get_or texts i [])
        ∙ ap (words_on m) (p.later tables texts i (omega arith)))
    at tables texts j l (no q) = kept-other heads tables texts answers h a i j q ∙ p.done tables texts j (omega arith)

-- ---- a batch

module _ (words : List ℕ) (s : SharedLent) (rows : List (Option Due)) (heads tables texts answers : List (List ℕ)) (m : ℕ)
    (lengths : Lengths (length heads) heads tables texts answers) (some : 0 < m)
    (ready : AllReady (common_lent words s) (length heads) (listed_at heads tables texts answers))
    (plain : (i : ℕ) → i < length heads → GoesAt answers i → PlainAt m (get_or heads i []))
    (is : (i : ℕ) → i < length heads → RowIs (get_or (get_or answers i []) 0 0) (get_or rows i None) (get_or heads i []) (get_or tables i [])) where
  abbrev f : ℕ → ListedLent
  f = listed_at heads tables texts answers

  all-served : AllServed 0 m rows texts (length heads) f
  all-served i l =
      record {
        on = λ g. let w = (is i l).on g in (w.0, w.1, follows-start (ready i l g) m w.0 (plain i l g) w.2);
        off = (is i l).off;
        same = refl;
      }

  holds : (i : ℕ) (l : i < length heads) (g : GoesAt answers i) → RowHolds (length words) ((is i l).on g).0 m
  unfolding all-served
  holds i l g = row-holds (ready i l g) m ((is i l).on g).0 some ((all-served i l).on g).2

  pub rows_fit : length heads ≤ length rows → RowsFit (length words) m rows texts
  rows_fit enough = (omega (arith, lengths.2), λ i l d e. go i (omega (arith, lengths.2)) d e (kind_goes_on (get_or (get_or answers i []) 0 0)) refl)
    where
      go : (i : ℕ) → i < length heads → (d : Due) → get_or rows i None ≡ Some d → (b : Bool) → kind_goes_on (get_or (get_or answers i []) 0 0) ≡ b
          → RowHolds (length words) d m
      go i l d e true g =
          let w = (is i l).on g in
          let same : w.0 ≡ d = cc (w.1, e) in
          subst (λ (k : Due). RowHolds (length words) k m) same (holds i l g)
      go i l d e false g = let off = (is i l).off g in cc (off, e)

  pub words-few : (i : ℕ) → i < length heads → GoesAt answers i → get_or (get_or heads i []) 8 0 + m ≤ 192
  words-few i l g = let n = ((is i l).on g).2.next in omega (arith, n, (holds i l g).1)

  pub rounds-made : (left : List ℕ) (heads' answers' : List (List ℕ)) → length heads' ≡ length heads
      → left ≡ rounds_stored m (length texts) rows texts words
      → ((i : ℕ) → i < length heads → listed_at heads' tables texts answers' i ≡ words_on m (f i))
      → (turn_left (common_lent left s) (listed heads' tables texts answers') ≡ rounds m step_turn_for (common_lent words s) (listed heads tables texts answers))
      × AllReady (common_lent left s) (length heads) (listed_at heads' tables texts answers')
  rounds-made left' heads' answers' eh ei each =
      let n = length heads in
      let q = gone s rows texts n words m f ready all-served m (omega arith) in
      let same : (i : ℕ) → i < n → listed_at heads' tables texts answers' i ≡ on_by m (f i) = λ i l. each i l ∙ sym (on-words (ready i l) m some) in
      let c : common_lent left' s ≡ common_lent (rounds_stored m n rows texts words) s =
      ap (λ (w : List ℕ). common_lent w s) (ei ∙ ap (λ (k : ℕ). rounds_stored m k rows texts words) lengths.2) in
      let none : m - m ≤ 0 = omega arith in (
        ap (λ (k : ℕ). turn_left (common_lent left' s) (list_from 0 k (listed_at heads' tables texts answers'))) eh
            ∙ ap (turn_left (common_lent left' s)) (same-list 0 n (listed_at heads' tables texts answers') (λ i. on_by m (f i)) (λ j a b. same j (omega arith)))
            ∙ ap (λ (x : CommonLent). turn_left x (list_from 0 n (λ i. on_by m (f i)))) c
            ∙ rounds-over (m - m) (common_lent (rounds_stored m n rows texts words) s) (list_from 0 n (λ i. on_by m (f i))) none ∙ sym q.reached,
        λ i l g. subst (λ (x : CommonLent). ReadyAt x (listed_at heads' tables texts answers' i)) (sym c)
            (subst (ReadyAt (common_lent (rounds_stored m n rows texts words) s)) (sym (same i l)) (q.all-ready i l (subst Goes (same i l) g))),
      )
