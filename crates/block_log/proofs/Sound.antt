-- What replay makes of legal entries: a table of 256 inside the image, nothing mapped past the length, and the last block mapped.
-- From the empty view on, entry by entry; the definitions' replay is the same fold.
use mathlib.Core.Path.{◌≡◌, refl, sym, ◌∙◌}
use mathlib.Core.Logic.{◌≢◌, ◌⊎◌}
use mathlib.Core.List.{List, [], ◌∷◌}
use mathlib.Core.Bool.{false, not}
use Prim.Native.Nat.{ℕ, ◌+◌, ◌*◌, ◌-◌, ◌/◌, ◌≤◌, ◌<◌, max}
use native.Mathlib.Decide.{dec_le}
use native.Mathlib.Omega.{arith}
use lib.ListN.{length, get_or, length-replicate}
use borrow.Author.Tests.{not-false}
use Rattle.words.specs.Edition.{Edition, block_bytes, file_end}
use Rattle.block_log.specs.Entry.{legal}
use Rattle.block_log.specs.Opening.{bad_entry}
use Rattle.block_log.specs.Replay.{map_run, replay_on, empty_file, replay}
use Rattle.words.proofs.Sizes.{sized, mul-le, mul-lt}
use Rattle.words.proofs.Logic.{or_left, or_right, zeros-at}
use Rattle.words.proofs.Paint.{Painted, painted, outside, inside}
use Rattle.block_log.proofs.Cover.{View, apply, apply_all, fresh, first_of, block_of, count_of, used_of}
use Rattle.block_log.proofs.Entry.{Valid, legal-valid}
use Rattle.block_log.proofs.Replay.{length-map_run, map_run-out, map_run-in}
use Rattle.block_log.specs.Replay.{map_run, apply as replays, replay_on, empty_file, replay}

pub record Sound (E : Edition) (B : ℕ) (x : View) : Type 0 where
  pub width : length x.table ≡ 256
  pub below : (v : ℕ) → get_or x.table v 0 ≢ 0 → block_bytes E * v < x.size
  pub last : x.size ≢ 0 → get_or x.table ((x.size - 1) / block_bytes E) 0 ≢ 0
  pub small : x.size ≤ file_end E
  pub in_image : (v : ℕ) → get_or x.table v 0 < B

pub sound-fresh : (E : Edition) (B : ℕ) → 1 ≤ B → Sound E B fresh
unfolding fresh
sound-fresh E B h = record {
  width = length-replicate {A = ℕ} 256 0;
  below = λ v n. absurd (n (zeros-at 256 v));
  last = λ n. absurd (n refl);
  small = omega arith;
  in_image = λ v. rw (zeros-at 256 v) h;
}

-- the block of the last byte
last_block : (E : Edition) (k u : ℕ) → 1 ≤ u → u ≤ block_bytes E → (block_bytes E * k + u - 1) / block_bytes E ≡ k
last_block E k u = sized (λ W U. 1 ≤ u → u ≤ 8 * W → (8 * W * k + u - 1) / (8 * W) ≡ k) (omega arith) E

module _ (E : Edition) (B e : ℕ) (x : View) (ok : Valid E B e) (s : Sound E B x) where
  abbrev v : ℕ
  v = first_of e

  abbrev T' : List ℕ
  T' = map_run x.table v (block_of e) (count_of e)

  in-at : (y : ℕ) → v ≤ y → y < v + count_of e → get_or T' y 0 ≡ block_of e + (y - v)
  in-at y h k =
      let a : v + (y - v) ≡ y = omega arith in
      rw a at (map_run-in x.table v (block_of e) (count_of e) (y - v) (omega (arith, ok.virtual, s.width)) (omega arith))

  out_at : (y : ℕ) → (y < v) ⊎ (v + count_of e ≤ y) → get_or T' y 0 ≡ get_or x.table y 0
  out_at y o = map_run-out x.table v (block_of e) (count_of e) y o

  abbrev end : ℕ
  end = block_bytes E * (v + count_of e - 1) + used_of E e

  mapped : (y : ℕ) → Painted v (count_of e) y → get_or x.table y 0 ≢ 0 → get_or T' y 0 ≢ 0
  mapped y (inside h k) n z = let a = in-at y h k in omega (arith, ok.from)
  mapped y (outside o) n z = n (sym (out_at y o) ∙ z)

  new-below : (y : ℕ) → Painted v (count_of e) y → get_or T' y 0 ≢ 0 → block_bytes E * y < max x.size end
  new-below y (inside h k) n = omega (arith, ok.used, mul-le E y (v + count_of e - 1) (omega arith))
  new-below y (outside o) n = let a = s.below y (λ z. n (out_at y o ∙ z)) in omega arith

  new-last : Dec (x.size ≤ end) → max x.size end ≢ 0 → get_or T' ((max x.size end - 1) / block_bytes E) 0 ≢ 0
  new-last (yes h) n =
      let a : max x.size end ≡ end = omega arith in
      let b : (end - 1) / block_bytes E ≡ v + count_of e - 1 = last_block E (v + count_of e - 1) (used_of E e) ok.used ok.block in
      rw (a, b) (λ z. let c = in-at (v + count_of e - 1) (omega (arith, ok.count)) (omega (arith, ok.count)) in omega (arith, ok.from))
  new-last (no h) n =
      let a : max x.size end ≡ x.size = omega arith in
      rw a (mapped ((x.size - 1) / block_bytes E) (painted v (count_of e) ((x.size - 1) / block_bytes E)) (s.last (omega arith)))

  new-inside : (y : ℕ) → Painted v (count_of e) y → get_or T' y 0 < B
  new-inside y (inside h k) = rw (in-at y h k) (omega (arith, ok.inside))
  new-inside y (outside o) = rw (out_at y o) (s.in_image y)

  pub sound-apply : Sound E B (apply E e x)
  unfolding apply replays
  sound-apply = record {
    width = length-map_run x.table v (block_of e) (count_of e) ∙ s.width;
    below = λ y. new-below y (painted v (count_of e) y);
    last = new-last (dec_le x.size end);
    small = omega (arith, s.small, ok.block, mul-lt E (v + count_of e - 1) 256 (omega (arith, ok.virtual, ok.count)));
    in_image = λ y. new-inside y (painted v (count_of e) y);
  }

pub replay-on : (E : Edition) (es : List ℕ) (x : View) → replay_on E x es ≡ apply_all E es x
unfolding replay_on apply
replay-on E [] x = refl
replay-on E (e ∷ es) x = replay-on E es (apply E e x)

pub replay-is : (E : Edition) (es : List ℕ) → replay E es ≡ apply_all E es fresh
unfolding replay fresh
replay-is E es = replay-on E es empty_file

-- what legal entries leave
pub sound-replay : (E : Edition) (B : ℕ) (es : List ℕ) (x : View) → bad_entry E B es ≡ false → Sound E B x → Sound E B (replay_on E x es)
unfolding replay_on bad_entry apply
sound-replay E B [] x h s = s
sound-replay E B (e ∷ es) x h s =
    sound-replay E B es (replays E x e) (or_right (not (legal E B e)) _ h)
    (sound-apply E B e x (legal-valid E B e (not-false _ (or_left (not (legal E B e)) _ h))) s)
