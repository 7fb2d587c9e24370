-- What reading, locating and viewing answer: one law for each exit of the code. Assumes nothing.
use Prim.Native.Nat.{ℕ, zero, suc, ◌-◌, ◌<◌, min}
use native.Mathlib.Omega.{arith}
use mathlib.Core.Path.{◌≡◌, refl, sym, ap, ◌∙◌}
use mathlib.Core.Logic.{◌≢◌}
use mathlib.Core.Bool.{Bool, false}
use mathlib.Core.List.{List, [], ◌∷◌, ◌++◌}
use lib.ListN.{length, get_or, drop}
use lib.Seq.{sets}
use lib.Dec.{leb}
use borrow.Author.Tests.{leb-false}
use Rattle.std.specs.Prelude.{Err}
use Rattle.words.specs.Edition.{Edition}
use Rattle.words.specs.Logic.{Reason, is_zero, list_from, first, ◌when◌}
use Rattle.words.specs.Memory.{Memory, memory, block_at}
use Rattle.words.proofs.Tests.{is-zero, not-zero, nonzero, passes}
use Rattle.block_log.specs.declared.Shared.{Shared}
use Rattle.block_log.specs.declared.Refusal.{Refusal}
use Rattle.block_log.specs.declared.Refusal.TheVariants.{NotMapped}
use Rattle.block_log.specs.Refusals.{Done, Refused, number}
use Rattle.block_log.specs.Replay.{Mapped, file_byte}
use Rattle.block_log.specs.Opening.{reply_of}
use Rattle.points.specs.declared.Head.{Head}
use Rattle.points.specs.declared.Count.{Count}
use Rattle.points.specs.declared.Numbers.{Numbers}
use Rattle.points.specs.Reading.{seen, read_refusal, read_count, reading, buffer_after, locate_refusal, located, locating, viewed}
use Rattle.points.specs.Search.{shared_of, numbers_of}
use Rattle.points.specs.Lent.{catch_up_refusal, found_at, part_of}
use Rattle.block_log.proofs.Replies.{number-not-0, refused-by}
use Rattle.points.proofs.Copied.{list_from-same, sets-front}
use Rattle.points.proofs.FilePieces.{part-block}
use Rattle.points.proofs.CaughtUp.{catch-up-reasons, catch-up-passed, catch-up-inside, failed-before}
use Rattle.points.proofs.RecordReasons.{first-settled, first-goes-on, settled_before}

-- ---- an answer by its refusal's number

abbrev answer : ℕ → ℕ → Count
answer r n = record { reply = reply_of r; count = elim r [ zero ↦ n | suc k ↦ 0 ] }

answer-refused : (r n : ℕ) (e : Refusal) → number e ≡ r → record { reply = Err e; count = 0 } ≡ answer r n
answer-refused zero n e h = absurd (number-not-0 e h)
answer-refused (suc r) n e h = refused-by e (suc r) (record { reply = Done; count = n }) (λ x. record { reply = Err x; count = 0 }) h

answer-done : (r n k : ℕ) → r ≡ 0 → k ≡ n → record { reply = Done; count = k } ≡ answer r n
answer-done zero n k e f = rw f
answer-done (suc r) n k e f = absurd (omega arith)

-- an entry of a table, 0 and any other
module _ (b x : ℕ) (is : b ≡ x) where
  pub found_none : b ≡ 0 → record { reply = Refused 22; count = 0 } ≡ found_at x
  found_none z = ap found_at (sym z ∙ is)

  pub found_some : b ≢ 0 → record { reply = Done; count = b } ≡ found_at x
  found_some ne = some b ne ∙ ap found_at is
    where
      some : (n : ℕ) → n ≢ 0 → record { reply = Done; count = n } ≡ found_at n
      some zero ne = absurd (ne refl)
      some (suc n) ne = refl

-- a shared record is that of its numbers and its map
pub of-numbers : (s : Shared) (n : Numbers) → n ≡ numbers_of s → shared_of n s.taken s.reports ≡ s
of-numbers s n e = ap (λ (k : Numbers). shared_of k s.taken s.reports) e

-- the part of an answer that is 0 exactly where it is refused
view-answer : (m : Memory) (r n b : ℕ) → b ≡ (answer r n).count → (r ≡ 0 → n ≢ 0)
    → part_of m b ≡ (elim r [ zero ↦ block_at m b | suc k ↦ [] ])
view-answer m zero n b e ne = part-block m b (λ z. ne refl (sym e ∙ z))
view-answer m (suc r) n b e ne = ap (part_of m) e

module _ (E : Edition) (I : List ℕ) (s : Shared) (h : Head) (table : List ℕ) where
  abbrev file : Mapped
  file = seen E I s h table

  -- ---- reading: it has no reason of its own

  read-sight : read_refusal E I s h table ≡ catch_up_refusal E I s h table false
  unfolding read_refusal catch_up_refusal
  read-sight = refl

  module _ (offset : ℕ) (buffer : List ℕ) where
    module _ (x : Refusal) (e : number x ≡ catch_up_refusal E I s h table false) where
      pub read-refused : record { reply = Err x; count = 0 } ≡ reading E I s h table offset (length buffer)
      unfolding reading read_count
      read-refused = answer-refused (read_refusal E I s h table) (min (length buffer) (file.size - offset)) x (e ∙ sym read-sight)

      no_bytes : read_count E I s h table offset (length buffer) ≡ 0
      unfolding reading
      no_bytes = ap (λ (c : Count). c.count) (sym read-refused)

      pub read-untouched : buffer ≡ buffer_after E I s h table offset buffer
      unfolding buffer_after
      read-untouched = rw no_bytes

    module _ (z : catch_up_refusal E I s h table false ≡ 0) (f : Mapped) (is : f ≡ file) (n : ℕ)
        (l : n ≡ min (length buffer) (f.size - offset)) where
      pub read_done : record { reply = Done; count = n } ≡ reading E I s h table offset (length buffer)
      unfolding reading read_count
      read_done =
          answer-done (read_refusal E I s h table) (min (length buffer) (file.size - offset)) n (read-sight ∙ z)
          (l ∙ ap (λ (g : Mapped). min (length buffer) (g.size - offset)) is)

      some_bytes : n ≡ read_count E I s h table offset (length buffer)
      unfolding reading
      some_bytes = ap (λ (c : Count). c.count) read_done

      pub read-filled :
          (out : List ℕ) → out ≡ sets buffer 0 (list_from offset n (file_byte E (memory E I) (record { table = f.table; size = 0 })))
          → out ≡ buffer_after E I s h table offset buffer
      unfolding buffer_after file_byte
      read-filled out o =
          let g : ℕ → ℕ = file_byte E (memory E I) (record { table = f.table; size = 0 }) in
          let same : list_from offset n g
          ≡ list_from offset n (file_byte E (memory E I) file) = list_from-same g (file_byte E (memory E I) file) offset offset n (λ i _. rw is) in
          rw (← some_bytes, o) (sets-front g buffer offset n (omega arith) ∙ ap (λ (bytes : List ℕ). bytes ++ drop n buffer) same)

  -- ---- locating: 22 is its own

  module _ (v : ℕ) where
    abbrev past : Bool
    past = leb 256 v

    abbrev unmapped : List Reason
    unmapped = 22 when is_zero (get_or file.table v 0) ∷ []

    locate-settled : (k : ℕ) → k ≡ catch_up_refusal E I s h table past → k ≢ 0 → k ≡ locate_refusal E I s h table v
    unfolding catch_up_refusal locate_refusal
    locate-settled zero e ne = absurd (ne refl)
    locate-settled (suc k) e ne = sym (settled_before (catch-up-reasons E I s h table past) unmapped k (sym e))

    pub locate-early : (x : Refusal) → number x ≡ catch_up_refusal E I s h table past
        → record { reply = Err x; count = 0 } ≡ locating E I s h table v
    unfolding locating located
    locate-early x e =
        answer-refused (locate_refusal E I s h table v) (get_or file.table v 0) x (locate-settled (number x) e (number-not-0 x))

    module _ (z : catch_up_refusal E I s h table past ≡ 0) where
      pub locate-inside : v < 256
      locate-inside = leb-false 256 v (catch-up-inside E I s h table past z)

      locate-late : locate_refusal E I s h table v ≡ first unmapped
      unfolding locate_refusal
      locate-late = failed-before (catch-up-reasons E I s h table past) unmapped (catch-up-passed E I s h table past z)

      module _ (f : Mapped) (is : f ≡ file) (b : ℕ) (at : b ≡ get_or f.table v 0) where
        index_is : b ≡ get_or file.table v 0
        index_is = at ∙ ap (λ (g : Mapped). get_or g.table v 0) is

        locate-unmapped : b ≡ 0 → record { reply = Refused 22; count = 0 } ≡ locating E I s h table v
        unfolding locating located
        locate-unmapped n =
            answer-refused (locate_refusal E I s h table v) (get_or file.table v 0) NotMapped
            (sym (locate-late ∙ first-settled 22 (is_zero (get_or file.table v 0)) [] (is-zero (get_or file.table v 0) (sym index_is ∙ n))))

        locate-found : b ≢ 0 → record { reply = Done; count = b } ≡ locating E I s h table v
        unfolding locating located
        locate-found n =
            answer-done (locate_refusal E I s h table v) (get_or file.table v 0) b
            (locate-late ∙ first-goes-on 22 (is_zero (get_or file.table v 0)) [] (not-zero (get_or file.table v 0) (λ m. n (index_is ∙ m)))) index_is

      pub locate-index : (f : Mapped) → f ≡ file → found_at (get_or f.table v 0) ≡ locating E I s h table v
      locate-index f is = by_index (get_or f.table v 0) refl
        where
          by_index : (b : ℕ) → b ≡ get_or f.table v 0 → found_at b ≡ locating E I s h table v
          by_index zero at = locate-unmapped f is zero at refl
          by_index (suc b) at = locate-found f is (suc b) at (λ z. absurd (omega arith))

    -- ---- viewing: the located block, which is 0 exactly when locating refuses

    locate-some : locate_refusal E I s h table v ≡ 0 → get_or file.table v 0 ≢ 0
    unfolding locate_refusal
    locate-some r = nonzero (get_or file.table v 0) (passes (catch-up-reasons E I s h table past ++ unmapped) refl r 5)

    located-is : located E I s h table v ≡ (answer (locate_refusal E I s h table v) (get_or file.table v 0)).count
    unfolding located
    located-is = refl

    pub view-part : part_of (memory E I) (located E I s h table v) ≡ viewed E I s h table v
    unfolding viewed
    view-part = view-answer (memory E I) (locate_refusal E I s h table v) (get_or file.table v 0) (located E I s h table v) located-is locate-some
