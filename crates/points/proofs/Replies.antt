-- A call that goes by its refusal's number replies that number: joining, beginning and leaving. Nobody joins or leaves by a beginning. And what a
-- step of a write answers is its plan's. The numbers of these replies come back. Assumes nothing.
use mathlib.Core.Path.{◌≡◌, refl, ap, ◌∙◌}
use mathlib.Core.Logic.{◌⊎◌, inl, inr}
use mathlib.Core.Bool.{true, false}
use mathlib.Core.List.{List, [], ◌∷◌, ◌++◌}
use Prim.Native.Nat.{ℕ, zero, suc}
use lib.Dec.{eqb, leb, ltb}
use lib.ListN.{length, get_or}
use borrow.Author.Tests.{eqb-true}
use Rattle.words.specs.Edition.{Edition, file_blocks}
use Rattle.words.specs.Logic.{is_zero, ◌when◌}
use Rattle.words.specs.Memory.{memory}
use Rattle.words.proofs.Tests.{or_split}
use Rattle.block_log.specs.declared.Shared.{Shared}
use Rattle.block_log.specs.Refusals.{number, refusal}
use Rattle.block_log.specs.Opening.{reply_of, number_of}
use Rattle.block_log.proofs.Replies.{replies, number-first, known-back}
use Rattle.points.specs.declared.Point.{Point}
use Rattle.points.specs.declared.Head.{Head}
use Rattle.points.specs.declared.Joined.{Joined}
use Rattle.points.specs.declared.Begun.{Begun}
use Rattle.points.specs.declared.Left.{Left}
use Rattle.points.specs.Record.{is_reading, unfit, bad_shared, is_joined, is_idle, span, record_reasons, broken_ahead}
use Rattle.points.specs.Search.{search}
use Rattle.points.specs.Reading.{seen, locating, locate_refusal}
use Rattle.points.specs.Calls.{bad_first, begin_reasons, joining, join_refusal, beginning, begin_refusal, beginning_read, begin_read_refusal, leaving}
use Rattle.points.specs.Plan.{Outcome, carried_out}
use Rattle.points.specs.Stepping.{ends_write, step_refusal, planned, stepping}
use Rattle.points.proofs.ReadCases.{write-kind}

-- what holds of both ways of a choice by a refusal's number holds of the way taken
chosen-either : {A : Type 0} (P : A → Type 0) (n : ℕ) {x : A} {y : ℕ → A} → P x → ((k : ℕ) → P (y k)) → P (elim n [ zero ↦ x | suc k ↦ y k ])
chosen-either P zero a b = a
chosen-either P (suc n) a b = b n

module _ (E : Edition) (I : List ℕ) (s : Shared) where
  pub join-replies : (n : ℕ) → (joining E I s n).reply ≡ reply_of (join_refusal E I s n)
  unfolding joining
  join-replies n = replies (λ (j : Joined). j.reply) (join_refusal E I s n) _ _ refl (λ k. refl)

  module _ (p : Point) where
    pub begin-replies : (o : ℕ) (text : List ℕ) → (beginning E I s p o text).reply ≡ reply_of (begin_refusal E I s p.head p.table o (length text))
    unfolding beginning
    begin-replies o text = replies (λ (b : Begun). b.reply) (begin_refusal E I s p.head p.table o (length text)) _ _ refl (λ k. refl)

    pub leave-replies : (leaving E I s p).reply ≡ reply_of (unfit E I s p.head p.table)
    unfolding leaving
    leave-replies = replies (λ (l : Left). l.reply) (unfit E I s p.head p.table) _ _ refl (λ k. refl)

    pub begin-read-replies : (o size : ℕ) → (beginning_read E I s p o size).reply ≡ reply_of (begin_read_refusal E I s p.head p.table o size)
    unfolding beginning_read
    begin-read-replies o size = replies (λ (b : Begun). b.reply) (begin_read_refusal E I s p.head p.table o size) _ _ refl (λ k. refl)

    -- nobody joins or leaves by it
    pub begin-points : (o : ℕ) (text : List ℕ) → (beginning E I s p o text).shared.joined ≡ s.joined
    unfolding beginning
    begin-points o text =
        chosen-either (λ (b : Begun). b.shared.joined ≡ s.joined) (begin_refusal E I s p.head p.table o (length text)) refl (λ k. refl)

    pub begin-read-points : (o size : ℕ) → (beginning_read E I s p o size).shared.joined ≡ s.joined
    unfolding beginning_read
    begin-read-points o size =
        chosen-either (λ (b : Begun). b.shared.joined ≡ s.joined) (begin_read_refusal E I s p.head p.table o size) refl (λ k. refl)

    pub step-answers : is_reading p.head.write.phase ≡ false → (stepping E I s p).step ≡ (planned E I s p).step
    unfolding carried_out
    step-answers e = ap (λ (o : Outcome). o.step) (write-kind E I s p e)

-- ---- the numbers of the replies

module _ (E : Edition) (I : List ℕ) (s : Shared) where
  pub joining-number : (n : ℕ) → number_of (joining E I s n).reply ≡ join_refusal E I s n
  unfolding join_refusal
  joining-number n =
      ap number_of (join-replies E I s n)
      ∙ number-first (10 when bad_shared E I s ∷ 12 when ltb 31 n ∷ 13 when is_joined s n ∷ 18 when bad_first s.blocks (memory E I) ∷ []) refl

  module _ (p : Point) where
    pub leaving-number : number_of (leaving E I s p).reply ≡ unfit E I s p.head p.table
    unfolding unfit
    leaving-number = ap number_of (leave-replies E I s p) ∙ number-first (record_reasons E I s p.head p.table) refl

    pub beginning-number : (o : ℕ) (text : List ℕ) → number_of (beginning E I s p o text).reply ≡ begin_refusal E I s p.head p.table o (length text)
    unfolding begin_refusal
    beginning-number o text =
        ap number_of (begin-replies E I s p o text)
        ∙ number-first (begin_reasons E I s p.head p.table o (length text) (19 when is_zero (search s (span E o (length text))) ∷ [])) refl

    pub beginning-read-number : (o size : ℕ) → number_of (beginning_read E I s p o size).reply ≡ begin_read_refusal E I s p.head p.table o size
    unfolding begin_read_refusal
    beginning-read-number o size = ap number_of (begin-read-replies E I s p o size) ∙ number-first (begin_reasons E I s p.head p.table o size []) refl

    -- the reason of a step that is refused has that number
    pub step-number : (k : ℕ) → step_refusal E I s p.head p.table ≡ suc k → number (refusal (suc k)) ≡ suc k
    unfolding step_refusal
    step-number k e = known-back (record_reasons E I s p.head p.table ++ 15 when is_idle p.head.write.phase ∷ []) refl k e

  pub locating-number : (h : Head) (table : List ℕ) (v : ℕ) → number_of (locating E I s h table v).reply ≡ locate_refusal E I s h table v
  unfolding locating locate_refusal
  locating-number h table v =
      number-first
      (record_reasons E I s h table ++ 17 when leb file_blocks v ∷ broken_ahead E I s h ∷ 22 when is_zero (get_or (seen E I s h table).table v 0) ∷ [])
      refl

-- 20 and 21 are numbers of reasons
pub ends-number : (k : ℕ) → ends_write k ≡ true → number (refusal k) ≡ k
ends-number k e = go (or_split (eqb k 20) (eqb k 21) e)
  where
    go : (eqb k 20 ≡ true) ⊎ (eqb k 21 ≡ true) → number (refusal k) ≡ k
    go (inl h) = rw (eqb-true k 20 h)
    go (inr h) = rw (eqb-true k 21 h)
