-- Laying out: its two ways out. Assumes nothing.
use mathlib.Core.Path.{◌≡◌, sym, ap, ◌∙◌}
use mathlib.Core.List.{List, ◌∷◌, ◌++◌}
use mathlib.Core.Bool.{true, false}
use Prim.Native.Nat.{ℕ, suc, ◌+◌, ◌*◌, ◌-◌, ◌≤◌}
use native.Mathlib.Omega.{arith}
use lib.ListN.{drop, set, replicate, replicate-append-replicate}
use Rattle.words.specs.Edition.{Edition}
use Rattle.words.specs.Memory.{wrong_size}
use Rattle.block_log.specs.Opening.{reply_of, layout_refusal, layout, laid_out}
use Rattle.block_log.specs.Refusals.{Done, Refused}

-- two blocks of w zeros in front, of which the first two words are set
front :
    (w mark : ℕ) (rest : List ℕ) → 2 ≤ w
    → set (set (replicate (2 * w) 0 ++ rest) 0 mark) 1 1 ≡ mark ∷ 1 ∷ replicate (w - 2) 0 ++ replicate w 0 ++ rest
front w mark rest h =
    let e : 2 * w ≡ suc (suc (w - 2 + w)) = omega arith in
    rw e (ap (λ (l : List ℕ). mark ∷ 1 ∷ l ++ rest) (sym (replicate-append-replicate (w - 2) w 0)))

module _ (E : Edition) (words : List ℕ) where
  pub lay-refused : wrong_size E words ≡ true → (Refused 1 ≡ reply_of (layout_refusal E words)) × (words ≡ layout E words)
  unfolding layout_refusal layout
  lay-refused h = (rw h, rw (h, layout))

  pub lay_done :
      (a b c : List ℕ) → wrong_size E words ≡ false → a ≡ replicate (2 * E.block_words) 0 ++ drop (2 * E.block_words) words → b ≡ set a 0 E.mark
      → c ≡ set b 1 1 → (Done ≡ reply_of (layout_refusal E words)) × (c ≡ layout E words)
  unfolding layout_refusal layout laid_out
  lay_done a b c h ea eb ec =
      let e : c ≡ set (set (replicate (2 * E.block_words) 0 ++ drop (2 * E.block_words) words) 0 E.mark) 1 1 =
      ec ∙ ap (λ (s : List ℕ). set s 1 1) (eb ∙ ap (λ (s : List ℕ). set s 0 E.mark) ea) in
      (rw h, rw (h, layout) (e ∙ front E.block_words E.mark (drop (2 * E.block_words) words) (omega arith)))
