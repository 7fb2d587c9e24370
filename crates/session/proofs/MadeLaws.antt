-- Lists that a loop fills from the front: the pseudo-random words of a seed, with those still to come; the text of a write, before what was there.
use Prim.Native.Nat.{ℕ, zero, suc, ◌+◌, ◌*◌, ◌%◌, ◌-◌, ◌≤◌, ◌<◌}
use mathlib.Core.Path.{◌≡◌, refl, sym, ap, ◌∙◌}
use mathlib.Core.Logic.{◌≢◌}
use mathlib.Core.List.{List, [], ◌∷◌, ◌++◌, append-nil}
use native.Mathlib.Omega.{arith}
use native.Mathlib.Numerals.{add-one}
use Rattle.std.proofs.Common.{add-zero}
use Rattle.std.proofs.Math.Nat.{mod-add-mod, mod-eq_of_lt}
use lib.ListN.{length, take, drop, set, drop_of_length-le}
use lib.Seq.{take-suc-set, take_all, append_snoc}
use Rattle.words.specs.Logic.{list_from}
use Rattle.session.specs.Made.{first_noise, scrambled, noise, text_byte, text_of}

pub first-zero : {s : ℕ} → s ≡ 0 → first_noise s ≡ 88172645463325252
unfolding first_noise
first-zero e = rw e

pub first-other : (s : ℕ) → s ≢ 0 → first_noise s ≡ s
unfolding first_noise
first-other zero h = absurd (h refl)
first-other (suc s) h = refl

noise-none : (x : ℕ) → noise x 0 ≡ []
unfolding noise
noise-none x = refl

noise-suc : (x n i : ℕ) → i < n → noise x (n - i) ≡ scrambled x ∷ noise (scrambled x) (n - (i + 1))
unfolding noise
noise-suc x n i l = let e : n - i ≡ suc (n - (i + 1)) = omega arith in rw e

pub noise-start : (x n : ℕ) (part : List ℕ) → take 0 part ++ noise x (n - 0) ≡ noise x n
noise-start x n part = let e : n - 0 ≡ n = omega arith in rw e

module _ (x n i : ℕ) (part whole : List ℕ) (size : length part ≡ n) (so_far : take i part ++ noise x (n - i) ≡ whole) where
  pub noise-next : (y : ℕ) → i < n → y ≡ scrambled x → take (i + 1) (set part i y) ++ noise y (n - (i + 1)) ≡ whole
  noise-next y l e =
      let h : i < length part = omega arith in
      let s = rw (noise-suc x n i l) at so_far in
      rw (e, add-one, take-suc-set part i (scrambled x) h, append_snoc) (rw add-one at s)

  pub noise-end : n ≤ i → part ≡ whole
  noise-end l =
      let e : n - i ≡ 0 = omega arith in
      let h : length part ≤ i = omega arith in
      let s = rw (e, take_all i part h, noise-none) at so_far in
      sym (append-nil part) ∙ s

module _ (seed i : ℕ) (text before : List ℕ) (so_far : text ≡ list_from 0 i (text_byte seed) ++ drop i before) where
  pub text-end : i ≡ length before → text ≡ text_of seed (length before)
  unfolding text_of
  text-end e =
      let h : length before ≤ i = omega arith in
      so_far ∙ rw (drop_of_length-le before h, append-nil, e)

-- each byte of a text is 7 more than the one before it
pub text-start : (seed : ℕ) → seed < 256 → seed ≡ text_byte seed 0
text-start seed h = sym (ap (λ (n : ℕ). n % 256) (add-zero seed) ∙ mod-eq_of_lt h)

pub text-next : (seed i b : ℕ) → b ≡ text_byte seed i → (b + 7) % 256 ≡ text_byte seed (i + 1)
text-next seed i b e =
    let s : seed + 7 * i + 7 ≡ seed + 7 * (i + 1) = omega arith in
    rw e (mod-add-mod (seed + 7 * i) 256 7 ∙ ap (λ (n : ℕ). n % 256) s)
