-- The last entry that covers a virtual block maps it in the replay of legal entries, since those behind it do not; what none covers is as before.
use mathlib.Core.Path.{◌≡◌, refl, sym, ◌∙◌}
use mathlib.Core.Logic.{◌≢◌, ◌⊎◌, inl, inr}
use mathlib.Core.Bool.{Bool, true, false, not, or-false}
use mathlib.Core.List.{List, [], ◌∷◌}
use Prim.Native.Nat.{ℕ, suc, ◌+◌, ◌-◌, ◌≤◌, ◌<◌}
use native.Mathlib.Omega.{arith}
use lib.Dec.{leb, ltb}
use lib.ListN.{length, get_or, length-replicate}
use borrow.Author.Tests.{leb-true, leb-false, ltb-true, ltb-false, not-false}
use Rattle.words.specs.Edition.{Edition}
use Rattle.words.specs.Logic.{some_of}
use Rattle.words.proofs.Choice.{choose-true, choose-false}
use Rattle.words.proofs.Logic.{or_left, or_right, and_left, and_right, zeros-at}
use Rattle.words.proofs.Tests.{no_true}
use Rattle.block_log.specs.Entry.{entry_v, entry_b, entry_n, legal, covers}
use Rattle.block_log.specs.Opening.{bad_entry}
use Rattle.block_log.specs.Replay.{Mapped, apply, replay_on, replay, empty_file}
use Rattle.block_log.proofs.Entry.{Valid, legal-valid}
use Rattle.block_log.proofs.Replay.{length-map_run, map_run-in, map_run-out}
use Rattle.inspection.specs.Faults.{last_covering}

module _ (v w : ℕ) where
  out_of : covers v w ≡ false → (v < entry_v w) ⊎ (entry_v w + entry_n w ≤ v)
  out_of h = go (leb (entry_v w) v) refl
    where
      go : (t : Bool) → leb (entry_v w) v ≡ t → (v < entry_v w) ⊎ (entry_v w + entry_n w ≤ v)
      go false e = inl (leb-false (entry_v w) v e)
      go true e = inr (ltb-false v (entry_v w + entry_n w) (rw e at h))

  in-it : covers v w ≡ true → (entry_v w ≤ v) × (v < entry_v w + entry_n w)
  in-it h = (
    leb-true (entry_v w) v (and_left (leb (entry_v w) v) (ltb v (entry_v w + entry_n w)) h),
    ltb-true v (entry_v w + entry_n w) (and_right (leb (entry_v w) v) (ltb v (entry_v w + entry_n w)) h),
  )

module _ (E : Edition) (v : ℕ) where
  pub uncovered : (es : List ℕ) (x : Mapped) → some_of (covers v) es ≡ false → get_or (replay_on E x es).table v 0 ≡ get_or x.table v 0
  unfolding replay_on apply
  uncovered [] x h = refl
  uncovered (w ∷ ws) x h =
      uncovered ws (apply E x w) (or_right (covers v w) (some_of (covers v) ws) h)
      ∙ map_run-out x.table (entry_v w) (entry_b w) (entry_n w) v (out_of v w (or_left (covers v w) (some_of (covers v) ws) h))

  module _ (w : ℕ) (x : Mapped) (wide : length x.table ≡ 256) where
    apply_at : (B : ℕ) → Valid E B w → covers v w ≡ true → get_or (apply E x w).table v 0 ≡ entry_b w + (v - entry_v w)
    unfolding apply
    apply_at B ok h =
        let i = in-it v w h in
        let e : entry_v w + (v - entry_v w) ≡ v = omega (arith, i.0) in
        rw e at (map_run-in x.table (entry_v w) (entry_b w) (entry_n w) (v - entry_v w) (omega (arith, ok.virtual, wide)) (omega (arith, i.0, i.1)))

    apply-wide : length (apply E x w).table ≡ 256
    unfolding apply
    apply-wide = length-map_run x.table (entry_v w) (entry_b w) (entry_n w) ∙ wide

  -- entry j of these maps v to block b
  pub record MapsTo (es : List ℕ) (j b : ℕ) : Type 0 where
    pub inside : j < length es
    pub over : covers v (get_or es j 0) ≡ true
    pub block : b ≡ entry_b (get_or es j 0) + (v - entry_v (get_or es j 0))

  module _ (w : ℕ) (ws : List ℕ) where
    last-later : some_of (covers v) ws ≡ true → last_covering v (w ∷ ws) ≡ suc (last_covering v ws)
    unfolding last_covering
    last-later e = choose-true (some_of (covers v) ws) (suc (last_covering v ws)) 0 e

    last-here : some_of (covers v) ws ≡ false → last_covering v (w ∷ ws) ≡ 0
    unfolding last_covering
    last-here e = choose-false (some_of (covers v) ws) (suc (last_covering v ws)) 0 e

  pub covered : (B : ℕ) (es : List ℕ) (x : Mapped) → length x.table ≡ 256 → bad_entry E B es ≡ false → some_of (covers v) es ≡ true
      → MapsTo es (last_covering v es) (get_or (replay_on E x es).table v 0)
  unfolding replay_on bad_entry
  covered B [] x wide h c = absurd (no_true c refl)
  covered B (w ∷ ws) x wide h c =
      go (some_of (covers v) ws) refl
      (λ e. covered B ws (apply E x w) (apply-wide w x wide) (or_right (not (legal E B w)) _ h) e)
    where
      ok : Valid E B w
      ok = legal-valid E B w (not-false (legal E B w) (or_left (not (legal E B w)) _ h))

      go :
          (t : Bool) → some_of (covers v) ws ≡ t
          → (some_of (covers v) ws ≡ true → MapsTo ws (last_covering v ws) (get_or (replay_on E (apply E x w) ws).table v 0))
          → MapsTo (w ∷ ws) (last_covering v (w ∷ ws)) (get_or (replay_on E (apply E x w) ws).table v 0)
      go true e ih = let r = ih e in rw (last-later w ws e) (record { inside = omega (arith, r.inside); over = r.over; block = r.block })
      go false e ih =
          let here : covers v w ≡ true = sym (or-false (covers v w)) ∙ (rw e at c) in
          rw (last-here w ws e) (record {
            inside = omega arith;
            over = here;
            block = uncovered ws (apply E x w) e ∙ apply_at w x wide B ok here;
          })

  -- in the replay from nothing: a virtual block that has a block is covered
  pub replay-covered : (B : ℕ) (es : List ℕ) → bad_entry E B es ≡ false → get_or (replay E es).table v 0 ≢ 0
      → MapsTo es (last_covering v es) (get_or (replay E es).table v 0)
  unfolding replay
  replay-covered B es h some = go (some_of (covers v) es) refl
    where
      go : (t : Bool) → some_of (covers v) es ≡ t → MapsTo es (last_covering v es) (get_or (replay_on E empty_file es).table v 0)
      go true e = covered B es empty_file (length-replicate {A = ℕ} 256 0) h e
      go false e = absurd (some (uncovered es empty_file e ∙ zeros-at 256 v))
