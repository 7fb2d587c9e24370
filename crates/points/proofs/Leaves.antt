-- Leaving: what becomes free goes by the phase, and the reasons are those that calls share. Assumes nothing.
use Prim.Native.Nat.{ℕ, ◌^◌, ◌<◌}
use native.Mathlib.Omega.{arith}
use native.Mathlib.Decide.{dec_lt}
use mathlib.Core.Path.{◌≡◌, sym, ap, ◌∙◌}
use mathlib.Core.Bool.{true, false}
use mathlib.Core.List.{List, [], ◌∷◌, ◌++◌, append-nil}
use Rattle.std.specs.Prelude.{Err}
use Rattle.words.specs.Edition.{Edition}
use Rattle.words.specs.Word.{bit}
use Rattle.words.specs.BlockMap.{with_bit, set_block, set_each}
use Rattle.words.specs.Logic.{up_from}
use Rattle.words.proofs.BlockMap.{each-run, each_append}
use Rattle.words.proofs.Choice.{choose-true, choose-false, chosen-zero}
use Rattle.words.proofs.Tests.{no_true}
use Rattle.block_log.specs.declared.Shared.{Shared}
use Rattle.block_log.specs.declared.Refusal.{Refusal}
use Rattle.block_log.specs.Refusals.{Done, number}
use Rattle.points.specs.declared.Write.{Write}
use Rattle.points.specs.declared.Point.{Point}
use Rattle.points.specs.Record.{is_writing, is_zeroing, run_blocks, held, unfit}
use Rattle.points.specs.Search.{with_joined, with_taken, reporting}
use Rattle.points.specs.Calls.{leaving}
use Rattle.points.specs.Plan.{without_run, without_held}
use Rattle.points.proofs.Fits.{no-bit}
use Rattle.block_log.proofs.Replies.{refused-by}

-- ---- what a point holds

module _ (E : Edition) (map : List ℕ) (w : Write) where
  pub held_none : is_writing w.phase ≡ false → map ≡ without_held E map w
  unfolding without_held set_each
  held_none e = sym (ap (set_each false map) (choose-false (is_writing w.phase) _ [] e))

  module _ (busy : is_writing w.phase ≡ true) (freed : List ℕ) (run : freed ≡ without_run E map w) where
    pub held-run : is_zeroing w.phase ≡ false → freed ≡ without_held E map w
    unfolding without_held without_run
    held-run e = run ∙ each-run false map w.run (run_blocks E w)
        ∙ sym (ap (set_each false map) (choose-true (is_writing w.phase) _ [] busy ∙ rw e (append-nil (up_from w.run (run_blocks E w)))))

    pub held_both : (left : List ℕ) → is_zeroing w.phase ≡ true → left ≡ set_block false freed w.zeroing → left ≡ without_held E map w
    unfolding without_held without_run set_each
    held_both left e l =
        let both : held E w ≡ up_from w.run (run_blocks E w) ++ (w.zeroing ∷ []) = choose-true (is_writing w.phase) _ [] busy ∙ rw e in
        l ∙ ap (λ (m : List ℕ). set_block false m w.zeroing) (run ∙ each-run false map w.run (run_blocks E w))
        ∙ sym (ap (set_each false map) both ∙ each_append false map (up_from w.run (run_blocks E w)) (w.zeroing ∷ []))

-- a point whose bit is set is one of 32
pub joined_small : (joined number : ℕ) → joined < 2 ^ 32 → bit joined number ≡ true → number < 32
joined_small joined number l e = go (dec_lt number 32)
  where
    go : Dec (number < 32) → number < 32
    go (yes h) = h
    go (no h) = absurd (no_true e (no-bit 32 joined number l (omega arith)))

-- ---- the answers

module _ (E : Edition) (words : List ℕ) (s : Shared) (p : Point) where
  pub leave-refused : (e : Refusal) → number e ≡ unfit E words s p.head p.table → record { reply = Err e; shared = s } ≡ leaving E words s p
  unfolding leaving
  leave-refused e h = refused-by e (unfit E words s p.head p.table) _ (λ x. record { reply = Err x; shared = s }) h

  pub leave-done :
      unfit E words s p.head p.table ≡ 0 → (map : List ℕ) (j : ℕ) (t u v : Shared) → map ≡ without_held E s.taken p.head.write
      → t ≡ with_taken s map
      → j ≡ with_bit false s.joined p.head.number → u ≡ with_joined t j → v ≡ reporting u p.head.number 0
      → record { reply = Done; shared = v } ≡ leaving E words s p
  unfolding leaving
  leave-done e map j t u v em et ej eu ev = rw (ev, eu, et, em, ej) (sym (chosen-zero (unfit E words s p.head p.table) _ _ e))
