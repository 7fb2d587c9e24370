-- A read adds what it took behind what stood there; a read that was interrupted took nothing.
use Rattle.std.proofs.Common.{rules, arith, ◌≡◌, ℕ, ◌+◌, ◌-◌, ◌≤◌, List, ◌++◌, length, take, slice_range, sym, ap, ◌∙◌, subst, le_refl, drop_at, length-take-le}
use Rattle.std.proofs.lemmas.Slice.{take-put_mid_below}
use Rattle.std.specs.Io.KnownBytes.{Consumes}
use Rattle.std.proofs.KnownBytes.{Consumes-trans, Consumes-kept}
use borrow.Rule.Slice.PartMut.{put_mid, post_of}
use lib.Seq.{take-add, take-append-le}
use Rattle.streams.proofs.read_full.Goals as goal
use Rattle.streams.proofs.read_full.Goals.{in-Ok, in-Err+else-ne}

take_split : (a b : ℕ) (old new : List ℕ) → a ≤ b → take a new ≡ take a old → take a old ++ slice_range new a b ≡ take b new
take_split a b old new h front =
    let same : a + (b - a) ≡ b = omega arith in
    ap (λ l. l ++ slice_range new a b) (sym front) ∙ sym (take-add a (b - a) new) ∙ ap (λ n. take n new) same

slice_range-put_mid : (a k n : ℕ) (xs ys : List ℕ) → a ≤ length xs → n ≤ length ys → slice_range (put_mid a k xs ys) a (a + n) ≡ take n ys
slice_range-put_mid a k n xs ys within fits =
    let same : (a + n) - a ≡ n = omega arith in
    let after = post_of a k xs in
    ap (take ((a + n) - a)) (drop_at (take a xs) (ys ++ after) a (length-take-le a xs within)) ∙ ap (λ m. take m (ys ++ after)) same ∙ take-append-le n ys after fits

pub loop-preserved : goal.loop-preserved
loop-preserved g c =
    let from = c.loop.done in
    let room = length c.loop.buffer - from in
    let now = put_mid from room c.loop.buffer c.read.new.buf in
    let within = c.loop.invariant.0 in
    let first = g.R.Read.remaining c.args.input.now in
    let left = g.R.Read.remaining c.read.new.self in
    elim c.match-read.branch [
      | in-Ok w ↦
          let part = slice_range-put_mid from room w.in-Ok.n c.loop.buffer c.read.new.buf within w.in-Ok.ensures.bound.0 in
          let joined = take_split from (from + w.in-Ok.n) c.loop.buffer now (omega arith) (take-put_mid_below _ _ _ _ _ (le_refl _) within) in
          let taken : Consumes first left (take (from + w.in-Ok.n) now) =
          subst (Consumes first left) (ap (λ l. take from c.loop.buffer ++ l) (sym part) ∙ joined) (Consumes-trans _ _ _ _ _ c.loop.invariant.1 w.in-Ok.ensures.bytes.0) in
          (search rules, subst (λ d. Consumes first left (take d now)) (sym w.done-is) taken)
      | in-Err+else-ne w ↦
          let taken : Consumes first left (take from now) =
          subst (Consumes first left) (sym (take-put_mid_below from room c.loop.buffer c.read.new.buf from (le_refl from) within)) (Consumes-kept _ _ _ _ c.loop.invariant.1 w.in-Err.ensures.bytes) in
          (search rules, subst (λ d. Consumes first left (take d now)) (sym w.done-is) taken)
    ]
