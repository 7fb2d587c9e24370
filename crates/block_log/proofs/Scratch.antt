-- The scratch after opening: marks written one by one, by place.
use mathlib.Core.Path.{◌≡◌, refl, sym, ap, ap₂, ◌∙◌}
use mathlib.Core.List.{List, [], ◌∷◌, ◌++◌}
use mathlib.Core.Bool.{Bool, true, false}
use Prim.Native.Nat.{ℕ, zero, suc, ◌+◌, ◌-◌, ◌<◌, ◌≤◌}
use native.Mathlib.Decide.{ℕ_discrete, dec_le}
use native.Mathlib.Omega.{arith}
use lib.Dec.{eqb}
use lib.ListN.{length, get_or, set, drop, replicate, length-append, length-drop, length-replicate, drop_of_length-le, get_or-append}
use lib.Seq.{ext_get_or, get_or-set_same, get_or-set_other, drop-cons, get_or-append-add}
use borrow.Author.Tests.{eq-eqb, ne_eqb}
use Rattle.words.specs.Logic.{member, list_from}
use Rattle.block_log.specs.Opening.{place_in, scratch_mark}
use Rattle.block_log.specs.Parts.{live_mark, chain_mark}
use Rattle.words.proofs.Logic.{length-list_from, get_d-list_from, zeros-at}
use Rattle.words.proofs.MapOf.{Below}

pub live-mark-start : (table s : List ℕ) (v i : ℕ) → length table ≤ v → get_or s i 0 ≡ live_mark (drop v table) v s i
unfolding live_mark
live-mark-start table s v i h = rw (drop_of_length-le table h)

pub live-mark-step :
    (table s₀ s : List ℕ) (v : ℕ) → v < length table → get_or table v 0 < length s
    → ((i : ℕ) → get_or s i 0 ≡ live_mark (drop (suc v) table) (suc v) s₀ i)
    → (i : ℕ) → get_or (set s (get_or table v 0) (suc v)) i 0 ≡ live_mark (drop v table) v s₀ i
unfolding live_mark
live-mark-step table s₀ s v h l same i = rw (drop-cons table v 0 h) (go (ℕ_discrete i (get_or table v 0)))
  where
    go : Dec (i ≡ get_or table v 0) → get_or (set s (get_or table v 0) (suc v)) i 0 ≡ live_mark (get_or table v 0 ∷ drop (suc v) table) v s₀ i
    go (yes e) = rw (eq-eqb i (get_or table v 0) e, live_mark, e) (get_or-set_same s (get_or table v 0) (suc v) 0 l)
    go (no n) = rw (ne_eqb i (get_or table v 0) n, live_mark) (get_or-set_other s (get_or table v 0) i (suc v) 0 n ∙ same i)

pub chain-mark-step : (b : ℕ) (bs s : List ℕ) (i : ℕ) → b < length s → chain_mark (b ∷ bs) s i ≡ chain_mark bs (set s b 65535) i
unfolding chain_mark
chain-mark-step b bs s i h = go (ℕ_discrete i b) (member i bs) refl
  where
    go : Dec (i ≡ b) → (t : Bool) → member i bs ≡ t → chain_mark (b ∷ bs) s i ≡ chain_mark bs (set s b 65535) i
    go (yes e) true m = rw (eq-eqb i b e, chain_mark, m)
    go (yes e) false m = rw (eq-eqb i b e, chain_mark, m, e) (sym (get_or-set_same s b 65535 0 h))
    go (no n) true m = rw (ne_eqb i b n, chain_mark, m)
    go (no n) false m = rw (ne_eqb i b n, chain_mark, m) (sym (get_or-set_other s b i 65535 0 n))

-- ---- all marks

live-mark-in : (table s : List ℕ) (v i : ℕ) → get_or s i 0 ≡ 0 → live_mark table v s i ≡ place_in i table (suc v)
unfolding live_mark place_in
live-mark-in [] s v i z = z
live-mark-in (x ∷ xs) s v i z = go (eqb i x) refl
  where
    go : (t : Bool) → eqb i x ≡ t → live_mark (x ∷ xs) v s i ≡ place_in i (x ∷ xs) (suc v)
    go t e = ap₂ (λ (a b : ℕ). elim (eqb i x) [ true ↦ a | false ↦ b ]) refl (rest xs)
      where
        rest : (ys : List ℕ) → live_mark ys (suc v) s i ≡ place_in i ys (suc (suc v))
        rest ys = live-mark-all ys (suc v)
          where
            live-mark-all : (zs : List ℕ) (w : ℕ) → live_mark zs w s i ≡ place_in i zs (suc w)
            live-mark-all [] w = z
            live-mark-all (y ∷ zs) w = ap (λ (b : ℕ). elim (eqb i y) [ true ↦ suc w | false ↦ b ]) (live-mark-all zs (suc w))

live-mark-past : (table s : List ℕ) (v i : ℕ) → Below table → 1024 ≤ i → live_mark table v s i ≡ get_or s i 0
unfolding live_mark
live-mark-past [] s v i h l = refl
live-mark-past (x ∷ xs) s v i h l = rw (ne_eqb i x (λ e. omega (arith, h.0)), live_mark) (live-mark-past xs s (suc v) i h.1 l)

chain-mark-past : (bs s : List ℕ) (i : ℕ) → Below bs → 1024 ≤ i → chain_mark bs s i ≡ get_or s i 0
unfolding chain_mark
chain-mark-past bs s i h l = rw (none bs h, chain_mark)
  where
    none : (cs : List ℕ) → Below cs → member i cs ≡ false
    none [] k = refl
    none (c ∷ cs) k = rw (ne_eqb i c (λ e. omega (arith, k.0))) (none cs k.1)

module _ (table cs orig s0 s1 s3 : List ℕ) (tb : Below table) (cb : Below cs) (long : 1024 ≤ length orig)
    (e0 : s0 ≡ replicate 1024 0 ++ drop 1024 orig) (l1 : length s1 ≡ length s0) (e1 : (i : ℕ) → get_or s1 i 0 ≡ live_mark table 0 s0 i)
    (l3 : length s3 ≡ length s1) (e3 : (i : ℕ) → get_or s3 i 0 ≡ chain_mark cs (set s1 0 65535) i) where
  abbrev target : List ℕ
  target = list_from 0 1024 (scratch_mark table cs) ++ drop 1024 orig

  zeros-length : length (replicate {A = ℕ} 1024 0) ≡ 1024
  zeros-length = length-replicate {A = ℕ} 1024 0

  s0-length : length s0 ≡ length orig
  s0-length = rw e0 (length-append (replicate 1024 0) (drop 1024 orig) ∙ omega (arith, zeros-length, length-drop 1024 orig))

  marks-length : length (list_from 0 1024 (scratch_mark table cs)) ≡ 1024
  marks-length = length-list_from 0 1024 (scratch_mark table cs)

  target-length : length target ≡ length orig
  target-length = length-append (list_from 0 1024 (scratch_mark table cs)) (drop 1024 orig) ∙ omega (arith, marks-length, length-drop 1024 orig)

  s0-low : (i : ℕ) → i < 1024 → get_or s0 i 0 ≡ 0
  s0-low i h = rw e0 (get_or-append (replicate 1024 0) (drop 1024 orig) 0 i (omega (arith, zeros-length)) ∙ zeros-at 1024 i)

  s0-high : (j : ℕ) → get_or s0 (1024 + j) 0 ≡ get_or (drop 1024 orig) j 0
  s0-high j = rw (e0, ← zeros-length) (get_or-append-add (replicate 1024 0) (drop 1024 orig) j 0)

  low : (i : ℕ) → i < 1024 → get_or s3 i 0 ≡ scratch_mark table cs i
  unfolding scratch_mark chain_mark
  low zero h = e3 0 ∙ go (member 0 cs) refl
    where
      go : (t : Bool) → member 0 cs ≡ t → chain_mark cs (set s1 0 65535) 0 ≡ 65535
      go true m = rw (m, chain_mark)
      go false m = rw (m, chain_mark) (get_or-set_same s1 0 65535 0 (omega (arith, l1, s0-length)))
  low (suc i) h = e3 (suc i) ∙ go (member (suc i) cs) refl
    where
      go : (t : Bool) → member (suc i) cs ≡ t → chain_mark cs (set s1 0 65535) (suc i) ≡ scratch_mark table cs (suc i)
      go true m = rw (m, chain_mark, scratch_mark)
      go false m =
          rw (m, chain_mark, scratch_mark)
          (get_or-set_other s1 0 (suc i) 65535 0 (λ e. omega arith) ∙ e1 (suc i) ∙ live-mark-in table s0 0 (suc i) (s0-low (suc i) h))

  high : (j : ℕ) → get_or s3 (1024 + j) 0 ≡ get_or (drop 1024 orig) j 0
  high j =
      e3 (1024 + j) ∙ chain-mark-past cs (set s1 0 65535) (1024 + j) cb (omega arith)
      ∙ get_or-set_other s1 0 (1024 + j) 65535 0 (λ e. omega arith) ∙ e1 (1024 + j)
      ∙ live-mark-past table s0 0 (1024 + j) tb (omega arith) ∙ s0-high j

  at : (i : ℕ) → Dec (1024 ≤ i) → get_or s3 i 0 ≡ get_or target i 0
  at i (no n) =
      low i (omega arith)
      ∙ sym (get_or-append (list_from 0 1024 (scratch_mark table cs)) (drop 1024 orig) 0 i (omega (arith, marks-length))
      ∙ get_d-list_from 0 1024 (scratch_mark table cs) i 0 (omega arith) ∙ ap (scratch_mark table cs) (omega arith))
  at i (yes h) =
      let e : i ≡ 1024 + (i - 1024) = omega arith in
      let t : get_or target (1024 + (i - 1024)) 0 ≡ get_or (drop 1024 orig) (i - 1024) 0 =
      rw (← marks-length) (get_or-append-add (list_from 0 1024 (scratch_mark table cs)) (drop 1024 orig) (i - 1024) 0) in
      ap (λ (k : ℕ). get_or s3 k 0) e ∙ high (i - 1024) ∙ sym (ap (λ (k : ℕ). get_or target k 0) e ∙ t)

  pub scratch-marked : s3 ≡ target
  scratch-marked = ext_get_or 0 s3 target (l3 ∙ l1 ∙ s0-length ∙ sym target-length) (λ i l. at i (dec_le 1024 i))
