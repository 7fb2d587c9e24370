-- What opening accepts, and what is kept of a list of logs: those that it accepts. Assumes nothing.
use Prim.Native.Nat.{ℕ, ◌≤◌}
use native.Mathlib.Omega.{arith}
use mathlib.Core.Path.{◌≡◌, refl, sym, ap, subst, ◌∙◌}
use mathlib.Core.Logic.{◌⊎◌, inl, inr}
use mathlib.Core.Bool.{Bool, true, false}
use mathlib.Core.List.{List, [], ◌∷◌}
use lib.ListN.{length, length-replicate}
use Rattle.words.specs.Edition.{one, blocks_max}
use Rattle.words.specs.Logic.{is_zero}
use Rattle.block_log.specs.Opening.{open_refusal}
use Rattle.block_log.proofs.Opening.{refusal-scratch}
use Rattle.small.specs.SmallLogs.{Among, image_with}
use Rattle.small.specs.Tried.{enough, accepts, kept}

-- the scratch is long enough, and any other such gives the same
pub enough-long : blocks_max ≤ length enough
enough-long = omega (arith, length-replicate {A = ℕ} blocks_max 0)

pub accepts-is : (es scratch : List ℕ) → blocks_max ≤ length scratch → accepts es ≡ is_zero (open_refusal one (image_with es) scratch)
unfolding accepts
accepts-is es scratch long = rw (refusal-scratch one (image_with es) enough scratch enough-long long)

-- what is kept
pub kept-yes : (es : List ℕ) (logs : List (List ℕ)) → accepts es ≡ true → kept (es ∷ logs) ≡ es ∷ kept logs
unfolding kept
kept-yes es logs a = rw (kept, a)

pub kept-no : (es : List ℕ) (logs : List (List ℕ)) → accepts es ≡ false → kept (es ∷ logs) ≡ kept logs
unfolding kept
kept-no es logs a = rw (kept, a)

pub kept_in : (es : List ℕ) (logs : List (List ℕ)) → Among es logs → accepts es ≡ true → Among es (kept logs)
kept_in es [] h a = absurd h
kept_in es (l ∷ logs) (inl h) a = subst (Among es) (sym (kept-yes l logs (ap accepts h ∙ a))) (inl h)
kept_in es (l ∷ logs) (inr h) a = go (accepts l) refl (kept_in es logs h a)
  where
    go : (t : Bool) → accepts l ≡ t → Among es (kept logs) → Among es (kept (l ∷ logs))
    go true e later = subst (Among es) (sym (kept-yes l logs e)) (inr later)
    go false e later = subst (Among es) (sym (kept-no l logs e)) later

pub kept_of : (es : List ℕ) (logs : List (List ℕ)) → Among es (kept logs) → Among es logs × (accepts es ≡ true)
unfolding kept
kept_of es [] h = absurd h
kept_of es (l ∷ logs) h = go (accepts l) refl (kept_of es logs)
  where
    here : accepts l ≡ true → (Among es (kept logs) → Among es logs × (accepts es ≡ true)) → (l ≡ es) ⊎ Among es (kept logs)
        → Among es (l ∷ logs) × (accepts es ≡ true)
    here e later (inl x) = (inl x, sym (ap accepts x) ∙ e)
    here e later (inr x) = let y = later x in (inr y.0, y.1)

    go : (t : Bool) → accepts l ≡ t → (Among es (kept logs) → Among es logs × (accepts es ≡ true)) → Among es (l ∷ logs) × (accepts es ≡ true)
    go true e later = here e later (subst (Among es) (kept-yes l logs e) h)
    go false e later = let y = later (subst (Among es) (kept-no l logs e) h) in (inr y.0, y.1)
