-- What the search finds. Upper layers use two laws alone: what is found is free and inside (`found-fits`), and one is found wherever there is a run of one
-- block or more (`found_some`). `found-best` says which, for the reader: the shortest stretch that is long enough, the lowest of equals.
use mathlib.Core.Path.{◌≡◌, refl, sym, ap, subst, ◌∙◌}
use mathlib.Core.Logic.{◌≢◌, ◌⊎◌, inl, inr}
use mathlib.Core.List.{List, [], ◌∷◌}
use mathlib.Core.Bool.{Bool, true, false, ◌&&◌}
use Prim.Native.Nat.{ℕ, zero, suc, ◌+◌, ◌-◌, ◌≤◌, ◌<◌}
use native.Mathlib.Decide.{dec_lt, ℕ_discrete}
use native.Mathlib.Omega.{arith}
use lib.Dec.{leb, ltb}
use borrow.Author.Tests.{lt-ltb, le-ltb, le-leb, lt-leb}
use Rattle.words.specs.declared.map.Stretch.{Stretch}
use Rattle.words.specs.BlockMap.{taken}
use Rattle.words.specs.Look.{Begins}
use Rattle.words.specs.Search.{free_ahead, is_start, stretch, stretches_from, shorter, shortest, none, found}
use Rattle.words.proofs.Choice.{choose-true, choose-false}
use Rattle.words.proofs.Looks.{Same}
use Rattle.words.proofs.Stretches.{is-start}

-- a run of n free blocks from r on, inside
pub record Fits (map : List ℕ) (blocks r n : ℕ) : Type 0 where
  pub in_image : r + n ≤ blocks
  pub is_free : (i : ℕ) → i < n → taken map (r + i) ≡ false

-- ---- how far a stretch goes

module _ (map : List ℕ) where
  ahead-le : (b n : ℕ) → free_ahead map b n ≤ n
  unfolding free_ahead
  ahead-le b zero = omega arith
  ahead-le b (suc n) = go (taken map b) refl (ahead-le (suc b) n)
    where
      go : (t : Bool) → taken map b ≡ t → free_ahead map (suc b) n ≤ n → free_ahead map b (suc n) ≤ suc n
      go true e h = rw (e, free_ahead) (omega arith)
      go false e h = rw (e, free_ahead) (omega arith)

  ahead-free : (b n i : ℕ) → i < free_ahead map b n → taken map (b + i) ≡ false
  unfolding free_ahead
  ahead-free b zero i h = absurd (omega arith)
  ahead-free b (suc n) i h = go (taken map b) refl i h (λ j l. ahead-free (suc b) n j l)
    where
      go : (t : Bool) → taken map b ≡ t → (i : ℕ) → i < free_ahead map b (suc n)
          → ((j : ℕ) → j < free_ahead map (suc b) n → taken map (suc b + j) ≡ false)
          → taken map (b + i) ≡ false
      go true e i h r = absurd (omega (arith, choose-true _ 0 (suc (free_ahead map (suc b) n)) e))
      go false e zero h r = let z : b + 0 ≡ b = omega arith in rw z e
      go false e (suc i) h r =
          let z : b + suc i ≡ suc b + i = omega arith in
          rw z (r i (omega (arith, choose-false _ 0 (suc (free_ahead map (suc b) n)) e)))

  -- as far as a row of free blocks, and farther
  ahead-ge : (b n j : ℕ) → j ≤ n → Same map false b (b + j) → j ≤ free_ahead map b n
  unfolding free_ahead
  ahead-ge b n zero l free = omega arith
  ahead-ge b zero (suc j) l free = absurd (omega arith)
  ahead-ge b (suc n) (suc j) l free =
      let h = ahead-ge (suc b) n j (omega arith) (λ x lo hi. free x (omega arith) (omega arith)) in
      omega (arith, h, choose-false _ 0 (suc (free_ahead map (suc b) n)) (free b (omega arith) (omega arith)))

-- ---- of two stretches

-- the new one, where it is long enough and shorter, or the best so far
data Chosen (n : ℕ) (best s : Stretch) : Type 0 where
  new : shorter n best s ≡ s → n ≤ s.length → s.length < best.length → Chosen n best s
  kept : shorter n best s ≡ best → (n ≤ s.length → best.length ≤ s.length) → Chosen n best s

chosen : (n : ℕ) (best s : Stretch) → Chosen n best s
unfolding shorter
chosen n best s = go (dec_lt s.length n) (dec_lt s.length best.length)
  where
    test : Bool
    test = leb n s.length && ltb s.length best.length

    go : Dec (s.length < n) → Dec (s.length < best.length) → Chosen n best s
    go (yes l) m = let e : test ≡ false = rw (lt-leb n s.length l) in kept (choose-false _ s best e) (λ h. absurd (omega arith))
    go (no l) (yes m) =
        let e : test ≡ true = rw (le-leb n s.length (omega arith), lt-ltb s.length best.length m) in new (choose-true _ s best e) (omega arith) m
    go (no l) (no m) =
        let e : test ≡ false = rw (le-leb n s.length (omega arith), le-ltb s.length best.length (omega arith)) in
        kept (choose-false _ s best e) (λ h. omega arith)

-- what comes later is the best so far, or shorter
later : (n : ℕ) (best : Stretch) (ss : List Stretch) → (shortest n best ss ≡ best) ⊎ ((shortest n best ss).length < best.length)
unfolding shortest
later n best [] = inl refl
later n best (s ∷ ss) = go (chosen n best s) (later n (shorter n best s) ss)
  where
    go : Chosen n best s → (shortest n best (s ∷ ss) ≡ shorter n best s) ⊎ ((shortest n best (s ∷ ss)).length < (shorter n best s).length)
        → (shortest n best (s ∷ ss) ≡ best) ⊎ ((shortest n best (s ∷ ss)).length < best.length)
    go (new e l m) (inl f) = inr (omega (arith, m, ap (λ (x : Stretch). x.length) (f ∙ e)))
    go (new e l m) (inr f) = inr (omega (arith, m, f, ap (λ (x : Stretch). x.length) e))
    go (kept e l) (inl f) = inl (f ∙ e)
    go (kept e l) (inr f) = inr (omega (arith, f, ap (λ (x : Stretch). x.length) e))

module _ (map : List ℕ) (blocks n : ℕ) where
  -- how many blocks the stretch from b on has
  abbrev pub reach : ℕ → ℕ
  reach b = free_ahead map b (blocks - b)

  -- the stretches from b on, by whether one starts there
  by-start : (P : List Stretch → Type 0) (b k : ℕ) → (is_start map b ≡ true → P (stretch map blocks b ∷ stretches_from map blocks (suc b) k))
      → P (stretches_from map blocks (suc b) k) → P (stretches_from map blocks b (suc k))
  unfolding stretches_from
  by-start P b k here past = go (is_start map b) refl
    where
      rest : List Stretch
      rest = stretches_from map blocks (suc b) k

      go : (t : Bool) → is_start map b ≡ t → P (stretches_from map blocks b (suc k))
      go true e = subst P (sym (choose-true _ (stretch map blocks b ∷ rest) rest e)) (here e)
      go false e = subst P (sym (choose-false _ (stretch map blocks b ∷ rest) rest e)) past

  -- what holds of the best so far, and of each stretch that is long enough, holds of the best
  keeps : (P : Stretch → Type 0) → ((b : ℕ) → 1 ≤ b → b < blocks → is_start map b ≡ true → n ≤ reach b → P (stretch map blocks b))
      → (b k : ℕ) (best : Stretch) → 1 ≤ b → k ≤ blocks - b → P best → P (shortest n best (stretches_from map blocks b k))
  unfolding shortest stretches_from
  keeps P each b zero best l h p = p
  keeps P each b (suc k) best l h p =
      by-start (λ ss. P (shortest n best ss)) b k
      (λ e. keeps P each (suc b) k (shorter n best (stretch map blocks b)) (omega arith) (omega arith) (go e (chosen n best (stretch map blocks b))))
      (keeps P each (suc b) k best (omega arith) (omega arith) p)
    where
      go : is_start map b ≡ true → Chosen n best (stretch map blocks b) → P (shorter n best (stretch map blocks b))
      go e (new f m s) = subst P (sym f) (each b l (omega arith) e m)
      go e (kept f m) = subst P (sym f) p

  abbrev result : Stretch
  result = shortest n (none blocks) (stretches_from map blocks 1 (blocks - 1))

  -- ---- what is found is a stretch that is long enough, so free and inside

  -- none yet, or such a stretch
  abbrev Met : Stretch → Type 0
  Met s = (s.start ≡ 0) ⊎ ((s.length ≡ reach s.start) × (is_start map s.start ≡ true) × (n ≤ s.length) × (s.start < blocks))

  met : Met result
  met = keeps Met (λ b l h e m. inr (refl, e, m, h)) 1 (blocks - 1) (none blocks) (omega arith) (omega arith) (inl refl)

  pub found-fits : found map blocks n ≢ 0 → Fits map blocks (found map blocks n) n
  unfolding found
  found-fits ne = go met
    where
      go : Met result → Fits map blocks result.start n
      go (inl z) = absurd (ne z)
      go (inr m) =
          let r = result.start in
          let far = ahead-le map r (blocks - r) in
          record { in_image = omega (arith, far, m.0, m.2, m.3); is_free = λ i l. ahead-free map r (blocks - r) i (omega (arith, m.0, m.2)) }

  pub found-le : found map blocks n ≤ blocks
  found-le = go (ℕ_discrete (found map blocks n) 0)
    where
      go : Dec (found map blocks n ≡ 0) → found map blocks n ≤ blocks
      go (yes z) = omega arith
      go (no ne) = omega (arith, (found-fits ne).in_image)

  -- ---- the shortest, and the lowest of equals

  module _ (a : ℕ) (starts : is_start map a ≡ true) (long : n ≤ reach a) where
    Better : Stretch → Type 0
    Better s = (s.length < reach a) ⊎ ((s.length ≡ reach a) × (s.start ≤ a))

    -- where the stretch from a on is weighed
    better-here : (k : ℕ) (best : Stretch) → best.start ≤ a → Better (shortest n best (stretch map blocks a ∷ stretches_from map blocks (suc a) k))
    unfolding Better shortest
    better-here k best lo = go (chosen n best (stretch map blocks a)) (later n (shorter n best (stretch map blocks a)) (stretches_from map blocks (suc a) k))
      where
        x : Stretch
        x = shorter n best (stretch map blocks a)

        end : Stretch
        end = shortest n x (stretches_from map blocks (suc a) k)

        go : Chosen n best (stretch map blocks a) → (end ≡ x) ⊎ (end.length < x.length) → Better end
        go (new e l m) (inl f) = inr (ap (λ (y : Stretch). y.length) (f ∙ e), omega (arith, ap (λ (y : Stretch). y.start) (f ∙ e)))
        go (new e l m) (inr f) = inl (omega (arith, f, ap (λ (y : Stretch). y.length) e))
        go (kept e l) (inl f) = by (dec_lt best.length (reach a))
          where
            by : Dec (best.length < reach a) → Better end
            by (yes h) = inl (omega (arith, ap (λ (y : Stretch). y.length) (f ∙ e)))
            by (no h) = inr (omega (arith, l long, ap (λ (y : Stretch). y.length) (f ∙ e)), omega (arith, ap (λ (y : Stretch). y.start) (f ∙ e)))
        go (kept e l) (inr f) = inl (omega (arith, f, l long, ap (λ (y : Stretch). y.length) e))

    better-from : (b k : ℕ) (best : Stretch) → b ≤ a → a < b + k → best.start ≤ b → Better (shortest n best (stretches_from map blocks b k))
    unfolding shortest stretches_from
    better-from b zero best lo hi l = absurd (omega arith)
    better-from b (suc k) best lo hi l = go (ℕ_discrete b a) (λ x ne s. better-from (suc b) k x (omega arith) (omega arith) s)
      where
        lower : Chosen n best (stretch map blocks b) → (shorter n best (stretch map blocks b)).start ≤ suc b
        lower (new e m s) = omega (arith, ap (λ (y : Stretch). y.start) e)
        lower (kept e m) = omega (arith, ap (λ (y : Stretch). y.start) e)

        go : Dec (b ≡ a) → ((x : Stretch) → b ≢ a → x.start ≤ suc b → Better (shortest n x (stretches_from map blocks (suc b) k)))
            → Better (shortest n best (stretches_from map blocks b (suc k)))
        go (yes e) r = rw e (subst (λ (ss : List Stretch). Better (shortest n best ss))
            (sym (choose-true _ (stretch map blocks a ∷ stretches_from map blocks (suc a) k) (stretches_from map blocks (suc a) k) starts))
            (better-here k best (omega arith)))
        go (no ne) r =
            by-start (λ ss. Better (shortest n best ss)) b k
            (λ e. r (shorter n best (stretch map blocks b)) ne (lower (chosen n best (stretch map blocks b)))) (r best ne (omega arith))

  -- the stretch that r starts is long enough; every other that is, is longer, or as long and higher
  pub record Shortest (r : ℕ) : Type 0 where
    pub starts : is_start map r ≡ true
    pub long : n ≤ reach r
    pub best : (a : ℕ) → 1 ≤ a → a < blocks → is_start map a ≡ true → n ≤ reach a
        → (reach r < reach a) ⊎ ((reach r ≡ reach a) × (r ≤ a))

  pub found-best : found map blocks n ≢ 0 → Shortest (found map blocks n)
  unfolding found Better
  found-best ne = go met
    where
      go : Met result → Shortest result.start
      go (inl z) = absurd (ne z)
      go (inr m) = record {
        starts = m.1;
        long = omega (arith, m.0, m.2);
        best = λ a one inside e l. rw (← m.0) (better-from a e l 1 (blocks - 1) (none blocks) one (omega arith) (omega arith));
      }

  -- ---- one is found exactly if there is a run

  -- the stretch that a run to before e is in starts at the run's start or before
  record Start (e : ℕ) : Type 0 where
    at : ℕ
    one : 1 ≤ at
    long : at + n ≤ e
    begins : Begins map at
    free : Same map false at e

  back : (r e : ℕ) → 1 ≤ r → r + n ≤ e → Same map false r e → Start e
  back zero e one l free = absurd (omega arith)
  back (suc zero) e one l free = record { at = 1; one = one; long = l; begins = inl refl; free = free }
  back (suc (suc r)) e one l free = go (taken map (suc r)) refl (λ f. back (suc r) e (omega arith) (omega arith) f)
    where
      go : (t : Bool) → taken map (suc r) ≡ t → (Same map false (suc r) e → Start e) → Start e
      go true t rest =
          let z : suc (suc r) - 1 ≡ suc r = omega arith in record { at = suc (suc r); one = one; long = l; begins = inr (rw z t); free = free }
      go false t rest = rest before
        where
          before : Same map false (suc r) e
          before x lo hi = by (ℕ_discrete x (suc r))
            where
              by : Dec (x ≡ suc r) → taken map x ≡ false
              by (yes q) = rw q t
              by (no q) = free x (omega arith) hi

  pub found_some : (r : ℕ) → 1 ≤ n → 1 ≤ r → Fits map blocks r n → found map blocks n ≢ 0
  unfolding found Better
  found_some r some one f z = go (back r (r + n) one (omega arith) free) unmet
    where
      free : Same map false r (r + n)
      free x lo hi = let e : r + (x - r) ≡ x = omega arith in rw (← e) (f.is_free (x - r) (omega arith))

      -- where nothing was found the length is that of no stretch
      unmet : (1 ≤ result.start) ⊎ (result.length ≡ blocks)
      unmet =
          keeps (λ s. (1 ≤ s.start) ⊎ (s.length ≡ blocks)) (λ b l h e m. inl l) 1 (blocks - 1) (none blocks) (omega arith) (omega arith) (inr refl)

      go : Start (r + n) → (1 ≤ result.start) ⊎ (result.length ≡ blocks) → ⊥
      go s (inl h) = omega (arith, z, h)
      go s (inr h) = by (better-from s.at starts (omega (arith, s.long, far)) 1 (blocks - 1) (none blocks) s.one (omega (arith, less)) (omega arith))
        where
          less : s.at < blocks
          less = omega (arith, s.long, f.in_image)

          starts : is_start map s.at ≡ true
          starts = is-start map s.at s.begins (s.free s.at (omega arith) (omega (arith, s.long)))

          far : r + n - s.at ≤ reach s.at
          far = ahead-ge map s.at (blocks - s.at) (r + n - s.at) (omega (arith, f.in_image)) (λ x lo hi. s.free x lo (omega (arith, s.long)))

          by : (result.length < reach s.at) ⊎ ((result.length ≡ reach s.at) × (result.start ≤ s.at)) → ⊥
          by (inl l) = omega (arith, l, h, less, s.one, ahead-le map s.at (blocks - s.at))
          by (inr l) = omega (arith, l.0, h, less, s.one, ahead-le map s.at (blocks - s.at))
