-- The code of the search, a turn at a time: it passes to the next stretch that may be long enough, weighs it, and goes on from the block that ends it.
use mathlib.Core.Path.{◌≡◌, refl, sym, ap, ◌∙◌}
use mathlib.Core.Logic.{◌≢◌, ◌⊎◌, inl, inr}
use mathlib.Core.List.{List, [], ◌∷◌}
use mathlib.Core.Bool.{Bool, true, false, ◌&&◌, not}
use Prim.Native.Nat.{ℕ, zero, suc, ◌+◌, ◌-◌, ◌*◌, ◌≤◌, ◌<◌, min}
use native.Mathlib.Decide.{dec_lt, dec_le}
use native.Mathlib.Omega.{arith}
use lib.Dec.{leb, ltb, eqb}
use borrow.Author.Tests.{le-ltb, le-leb, lt-leb, eq-eqb, ne_eqb}
use Rattle.words.specs.declared.map.Stretch.{Stretch}
use Rattle.words.specs.BlockMap.{taken}
use Rattle.words.specs.Look.{Whole, Begins, Blocked, Passes}
use Rattle.words.specs.Search.{free_ahead, is_start, stretch, stretches_from, shorter, shortest}
use Rattle.words.proofs.Choice.{choose-true, choose-false}
use Rattle.words.proofs.Looks.{Same, onward, free-behind}
use Rattle.words.proofs.Tests.{or-2, no_true}

-- ---- how far a stretch goes

ahead-is : (map : List ℕ) (b n j : ℕ) → j ≤ n → Same map false b (b + j) → (j ≡ n) ⊎ (taken map (b + j) ≡ true)
    → free_ahead map b n ≡ j
unfolding free_ahead
ahead-is map b zero j l free e = omega arith
ahead-is map b (suc n) zero l free (inl e) = absurd (omega arith)
ahead-is map b (suc n) zero l free (inr e) = let z : b + 0 ≡ b = omega arith in choose-true _ _ _ (ap (taken map) (sym z) ∙ e)
ahead-is map b (suc n) (suc j) l free e =
    choose-false _ _ _ (free b (omega arith) (omega arith))
    ∙ ap suc (ahead-is map (suc b) n j (omega arith) (λ x lo hi. free x (omega arith) (omega arith)) (on e))
  where
    on : (suc j ≡ suc n) ⊎ (taken map (b + suc j) ≡ true) → (j ≡ n) ⊎ (taken map (suc b + j) ≡ true)
    on (inl e) = inl (omega arith)
    on (inr e) = let z : suc b + j ≡ b + suc j = omega arith in inr (rw z e)

-- not past a taken block
ahead-stops : (map : List ℕ) (b n j : ℕ) → taken map (b + j) ≡ true → free_ahead map b n ≤ j
unfolding free_ahead
ahead-stops map b zero j e = omega arith
ahead-stops map b (suc n) zero e =
    let z : b + 0 ≡ b = omega arith in omega (arith, choose-true _ 0 (suc (free_ahead map (suc b) n)) (ap (taken map) (sym z) ∙ e))
ahead-stops map b (suc n) (suc j) e = go (taken map b) refl (ahead-stops map (suc b) n j (let z : suc b + j ≡ b + suc j = omega arith in rw z e))
  where
    go : (t : Bool) → taken map b ≡ t → free_ahead map (suc b) n ≤ j → free_ahead map b (suc n) ≤ suc j
    go true f h = omega (arith, choose-true _ 0 (suc (free_ahead map (suc b) n)) f)
    go false f h = omega (arith, choose-false _ 0 (suc (free_ahead map (suc b) n)) f)

-- ---- where stretches start

module _ (map : List ℕ) where
  pub is-start : (b : ℕ) → Begins map b → taken map b ≡ false → is_start map b ≡ true
  unfolding is_start
  is-start b (inl e) f = rw (f, eq-eqb b 1 e)
  is-start b (inr e) f = rw f (or-2 (eqb b 1) (taken map (b - 1)) e)

  no-start-taken : (b : ℕ) → taken map b ≡ true → is_start map b ≡ false
  unfolding is_start
  no-start-taken b e = rw e

  no-start-free : (b : ℕ) → b ≢ 1 → taken map (b - 1) ≡ false → is_start map b ≡ false
  unfolding is_start
  no-start-free b ne e = rw (ne_eqb b 1 ne, e) (never (not (taken map b)))
    where
      never : (x : Bool) → x && false ≡ false
      never true = refl
      never false = refl

-- ---- what is not weighed

-- one that is too short is not taken
too_short : (n : ℕ) (best s : Stretch) → s.length < n → shorter n best s ≡ best
unfolding shorter
too_short n best s l = let e : leb n s.length && ltb s.length best.length ≡ false = rw (lt-leb n s.length l) in choose-false _ s best e

-- a stretch as long as asked for is not bettered
pub settled : (n : ℕ) (best : Stretch) (ss : List Stretch) → best.length ≤ n → shortest n best ss ≡ best
unfolding shortest shorter
settled n best [] h = refl
settled n best (s ∷ ss) h = ap (λ (x : Stretch). shortest n x ss) (kept (dec_lt s.length n)) ∙ settled n best ss h
  where
    kept : Dec (s.length < n) → shorter n best s ≡ best
    kept (yes l) = too_short n best s l
    kept (no l) =
        let e : leb n s.length && ltb s.length best.length ≡ false =
        rw (le-leb n s.length (omega arith), le-ltb s.length best.length (omega arith)) in
        choose-false _ s best e

-- no stretch that is long enough starts there
abbrev NoStart : List ℕ → ℕ → ℕ → ℕ → Type 0
NoStart map blocks n x = is_start map x ≡ true → free_ahead map x (blocks - x) < n

module _ (map : List ℕ) (blocks n : ℕ) (best : Stretch) where
  -- what is found from block b on, of n blocks; and of the rest of the image
  abbrev among : ℕ → ℕ → Stretch
  among b k = shortest n best (stretches_from map blocks b k)

  abbrev pub found_from : ℕ → Stretch
  found_from b = among b (blocks - b)

  among-at : (b c k l : ℕ) → b ≡ c → k ≡ l → among b k ≡ among c l
  among-at b c k l e f = rw (e, f)

  none_left : (b k : ℕ) → k ≡ 0 → among b k ≡ best
  unfolding shortest stretches_from
  none_left b k z = rw z

  pass : (b k j : ℕ) → j ≤ k → ((x : ℕ) → b ≤ x → x < b + j → NoStart map blocks n x) → among b k ≡ among (b + j) (k - j)
  unfolding shortest stretches_from
  pass b k zero l h = among-at b (b + 0) k (k - 0) (omega arith) (omega arith)
  pass b zero (suc j) l h = absurd (omega arith)
  pass b (suc k) (suc j) l h =
      go (is_start map b) refl ∙ pass (suc b) k j (omega arith) (λ x lo hi. h x (omega arith) (omega arith))
      ∙ among-at (suc b + j) (b + suc j) (k - j) (suc k - suc j) (omega arith) (omega arith)
    where
      rest : List Stretch
      rest = stretches_from map blocks (suc b) k

      go : (t : Bool) → is_start map b ≡ t → among b (suc k) ≡ shortest n best rest
      go true e =
          ap (shortest n best) (choose-true _ (stretch map blocks b ∷ rest) rest e)
          ∙ ap (λ (x : Stretch). shortest n x rest) (too_short n best (stretch map blocks b) (h b (omega arith) (omega arith) e))
      go false e = ap (shortest n best) (choose-false _ (stretch map blocks b ∷ rest) rest e)

  -- to block t, or past the last one
  pass-to : (b t : ℕ) → b ≤ t → ((x : ℕ) → b ≤ x → x < t → x < blocks → NoStart map blocks n x) → found_from b ≡ found_from t
  pass-to b t l h = go (dec_le t blocks)
    where
      go : Dec (t ≤ blocks) → found_from b ≡ found_from t
      go (yes le) =
          pass b (blocks - b) (t - b) (omega arith) (λ x lo hi. h x lo (omega arith) (omega arith))
          ∙ among-at (b + (t - b)) t ((blocks - b) - (t - b)) (blocks - t) (omega arith) (omega arith)
      go (no gt) =
          pass b (blocks - b) (blocks - b) (omega arith) (λ x lo hi. h x lo (omega arith) (omega arith))
          ∙ none_left (b + (blocks - b)) ((blocks - b) - (blocks - b)) (omega arith) ∙ sym (none_left t (blocks - t) (omega arith))

  pub found_none : (s : ℕ) → blocks ≤ s → found_from s ≡ best
  found_none s h = none_left s (blocks - s) (omega arith)

  -- blocked starts are passed over
  pub passes : (s t : ℕ) → Passes map blocks n s t → found_from s ≡ found_from t
  passes s t p = pass-to s t p.from (λ x lo hi l e. short x e (p.blocked x lo hi))
    where
      short : (x : ℕ) → is_start map x ≡ true → Blocked map n x → free_ahead map x (blocks - x) < n
      short x e b = go b.near
        where
          z : x + (b.at - x) ≡ b.at
          z = omega (arith, b.from)

          go : (b.at ≡ x) ⊎ (b.at < x + n) → free_ahead map x (blocks - x) < n
          go (inl q) = absurd (no_true e (no-start-taken map x (ap (taken map) (sym q) ∙ b.is_taken)))
          go (inr q) = omega (arith, b.from, q, ahead-stops map x (blocks - x) (b.at - x) (ap (taken map) z ∙ b.is_taken))

-- ---- one turn: free blocks from a start to before d, which is taken or past the last block

module _ (map : List ℕ) (blocks n : ℕ) (best : Stretch) (s d : ℕ) (begins : Begins map s) (inside : s < blocks) (low : 1 ≤ s) (less : s < d)
    (free : Same map false s (min d blocks)) (ends : d < blocks → taken map d ≡ true) where
  length-is : free_ahead map s (blocks - s) ≡ min d blocks - s
  length-is = ahead-is map s (blocks - s) (min d blocks - s) (omega arith) (λ x lo hi. free x lo (omega arith)) (go (dec_lt d blocks))
    where
      go : Dec (d < blocks) → (min d blocks - s ≡ blocks - s) ⊎ (taken map (s + (min d blocks - s)) ≡ true)
      go (yes h) = let z : s + (min d blocks - s) ≡ d = omega arith in inr (rw z (ends h))
      go (no h) = inl (omega arith)

  -- no other stretch starts before d
  no_start : (x : ℕ) → suc s ≤ x → x < d → x < blocks → NoStart map blocks n x
  no_start x lo hi l e = absurd (no_true e (no-start-free map x (omega arith) (free (x - 1) (omega arith) (omega arith))))

  -- the stretch is weighed, and the search goes on from d
  abbrev weighed : Stretch
  weighed = shorter n best (record { start = s; length = min d blocks - s })

  pub turn : found_from map blocks n best s ≡ found_from map blocks n weighed d
  unfolding shortest stretches_from
  turn =
      let k : blocks - s ≡ suc (blocks - suc s) = omega arith in
      let rest = stretches_from map blocks (suc s) (blocks - suc s) in
      ap (λ (i : ℕ). shortest n best (stretches_from map blocks s i)) k
      ∙ ap (shortest n best) (choose-true _ (stretch map blocks s ∷ rest) rest (is-start map s begins (free s (omega arith) (omega arith))))
      ∙ ap (λ (l : ℕ). shortest n (shorter n best (record { start = s; length = l })) rest) length-is
      ∙ pass-to map blocks n weighed (suc s) d (omega arith) no_start

-- ---- for the code

-- no map word is left
pub free-to-end : (map : List ℕ) (blocks s k low words : ℕ) → Same map false s (64 * k + low) → Whole map blocks words → words ≤ k
    → Same map false s blocks
free-to-end map blocks s k low words h e l =
    onward (λ b. taken map b ≡ false) s (64 * k + low) blocks h (λ b lo hi. free-behind map blocks words k b e l (omega arith) hi)

pub shorter-same : (n s : ℕ) {b c : Stretch} {d e : ℕ} → b ≡ c → d ≡ e
    → shorter n b (record { start = s; length = d - s }) ≡ shorter n c (record { start = s; length = e - s })
shorter-same n s p q = rw (p, q)
